-- Trees with small numbers can be read, where each name has in the scope the sort of its place.
use Rattle.std.proofs.Common.{Bool, List, Some, [], ap, arith, cond, false, filter, flat_map, inl, inr, length, not, refl, suc, true, ◌++◌, ◌<◌, ◌≤◌, ◌∷◌, ◌≡◌, ◌≢◌}
use Rattle.std.specs.List.{All}
use Rattle.std.proofs.lemmas.List.Elements.{All-head, All-tail}
use Rattle.std.specs.Str.{bytes_eq}
use Rattle.cyp_lex.specs.declared.ident.Ident.{Ident}
use Rattle.cyp_reading.specs.Readable.{ArgReadable, ArgsReadable, ChunkReadable, IntReadable, ItemReadable, LitReadable, PartReadable, PureReadable, SetReadable}
use Rattle.cyp_spec.specs.Small.{ArgSmall, ChunkSmall, IntSmall, ItemSmall, LitSmall, PartSmall, PureSmall, SetSmall}
use Rattle.cyp_reading.proofs.Alls.{all_by}
use Rattle.cyp_term.specs.declared.term.Sort.{Sort}
use Rattle.cyp_term.specs.declared.term.Sort.TheVariants.{Card, Int, Set}
use Rattle.cyp_term.proofs.Lists.{Among, Among-left, Among-right, filter_in, flat_in}
use Rattle.cyp_names.specs.Bodies.{is_name, is_turned, item_lits, kept_lit, kept_parts, kept_set, pure_lits}
use Rattle.cyp_text.specs.LitTrees.{Comparing, Inside, LitTree, Negation, SameSets, SubSets}
use Rattle.cyp_names.specs.ReadTerms.{Scope, sort_in}
use Rattle.cyp_text.specs.declared.tree.ArgTree.{ArgTree}
use Rattle.cyp_text.specs.declared.tree.ArgTree.TheVariants.{BracesArg, TermArg, UnionArg}
use Rattle.cyp_text.specs.declared.tree.ChunkTree.{ChunkTree}
use Rattle.cyp_text.specs.declared.tree.ChunkTree.TheVariants.{BlockOf, InstanceOf, NamedCell, TermCell}
use Rattle.cyp_text.specs.declared.tree.Conjunction.{Conjunction}
use Rattle.cyp_text.specs.declared.tree.IntTree.{IntTree}
use Rattle.cyp_text.specs.declared.tree.IntTree.TheVariants.{MinusNum, NameMinus, NamePlus, Named, Num, NumPlus}
use Rattle.cyp_text.specs.declared.tree.ItemTree.{ItemTree}
use Rattle.cyp_text.specs.declared.tree.ItemTree.TheVariants.{LitItem, TrueItem}
use Rattle.cyp_text.specs.declared.tree.PartTree.{PartTree}
use Rattle.cyp_text.specs.declared.tree.PartTree.TheVariants.{Braces, PartName}
use Rattle.cyp_text.specs.declared.tree.PredTree.{PredTree}
use Rattle.cyp_text.specs.declared.tree.PureTree.{PureTree}
use Rattle.cyp_text.specs.declared.tree.PureTree.TheVariants.{Items, NoItems}
use Rattle.cyp_text.specs.declared.tree.SetTree.{SetTree}
use Rattle.cyp_names.specs.Uses.{Use, arg_sorts, arg_uses, args_uses, chunk_uses, int_uses, part_uses, pred_place, set_parts, use_of}
use Rattle.cyp_formed.proofs.PlainSorts.{arg_sorts_plain}

module _ (sc : Scope) where
  -- each of these names has its sort in the scope
  abbrev pub Sorted : List Use → Type 0
  Sorted us = (u : Use) → Among u us → sort_in sc u.name.text ≡ u.sort

  pub sorted_left : (us ws : List Use) → Sorted (us ++ ws) → Sorted us
  sorted_left us ws h u m = h u (Among-left u us ws m)

  pub sorted_right : (us ws : List Use) → Sorted (us ++ ws) → Sorted ws
  sorted_right us ws h u m = h u (Among-right u us ws m)

  pub sorted_flat : {A : Type 0} (f : A → List Use) (x : A) (xs : List A) → Among x xs → Sorted (flat_map f xs) → Sorted (f x)
  sorted_flat f x xs m h u k = h u (flat_in f u x xs m k)

  sorted_one : (s : Sort) (i : Ident) → Sorted (use_of s i ∷ []) → sort_in sc i.text ≡ s
  sorted_one s i h = h (use_of s i) (inl refl)

  -- ---- terms and unions

  pub int_readable : (t : IntTree) → IntSmall t → Sorted (int_uses t) → IntReadable sc t
  int_readable (Num p n) s h = s
  int_readable (MinusNum p n) s h = s
  int_readable (Named i) s h = sorted_one Int i h
  int_readable (NamePlus i n) s h = (sorted_one Int i h, s)
  int_readable (NameMinus i n) s h = (sorted_one Int i h, s)
  int_readable (NumPlus p n i) s h = (sorted_one Int i h, s)

  ints_readable : (ts : List IntTree) → All IntSmall ts → Sorted (flat_map int_uses ts) → All (IntReadable sc) ts
  ints_readable ts s h = all_by IntSmall (IntReadable sc) ts (λ t m k. int_readable t k (sorted_flat int_uses t ts m h)) s

  part_readable : (w : PartTree) → PartSmall w → Sorted (part_uses w) → PartReadable sc w
  part_readable (PartName i) s h = sorted_one Set i h
  part_readable (Braces p ts) s h = ints_readable ts s h

  -- the names of a part, be it a name or not
  sorted_part : (w : PartTree) (ws : List PartTree) → Among w ws → Sorted (kept_parts ws) → Sorted (part_uses w)
  sorted_part w ws m h = by_name (is_name w) refl
    where
      by_name : (b : Bool) → is_name w ≡ b → Sorted (part_uses w)
      by_name true e =
          sorted_flat part_uses w (filter is_name ws) (filter_in is_name w ws m e) (sorted_left (flat_map part_uses (filter is_name ws)) (flat_map part_uses (filter (λ u. not (is_name u)) ws)) h)
      by_name false e =
          sorted_flat part_uses w (filter (λ u. not (is_name u)) ws) (filter_in (λ u. not (is_name u)) w ws m (ap not e))
          (sorted_right (flat_map part_uses (filter is_name ws)) (flat_map part_uses (filter (λ u. not (is_name u)) ws)) h)

  parts_readable : (all ws : List PartTree) → ((w : PartTree) → Among w ws → Among w all) → All PartSmall ws → Sorted (kept_parts all) → All (PartReadable sc) ws
  parts_readable all ws within s h = all_by PartSmall (PartReadable sc) ws (λ w m k. part_readable w k (sorted_part w all (within w m) h)) s

  set_readable : (u : SetTree) → SetSmall u → Sorted (kept_set u) → SetReadable sc u
  set_readable u s h = (part_readable u.first s.0 (sorted_part u.first (set_parts u) (inl refl) h), parts_readable (set_parts u) u.others (λ w m. inr m) s.1 h)

  -- ---- literals

  either_left : (b : Bool) (us ws : List Use) → Sorted (cond b (ws ++ us) (us ++ ws)) → Sorted us
  either_left true us ws h = sorted_right ws us h
  either_left false us ws h = sorted_left us ws h

  either_right : (b : Bool) (us ws : List Use) → Sorted (cond b (ws ++ us) (us ++ ws)) → Sorted ws
  either_right true us ws h = sorted_left ws us h
  either_right false us ws h = sorted_right us ws h

  pub lit_readable : (n : Bool) (l : LitTree) → LitSmall l → Sorted (kept_lit n l) → LitReadable sc l
  lit_readable n (Comparing a c b) s h =
      (int_readable a s.0 (either_left (is_turned n c) (int_uses a) (int_uses b) h), int_readable b s.1 (either_right (is_turned n c) (int_uses a) (int_uses b) h))
  lit_readable n (SameSets a b) s h = (set_readable a s.0 (sorted_left (kept_set a) (kept_set b) h), set_readable b s.1 (sorted_right (kept_set a) (kept_set b) h))
  lit_readable n (SubSets a b) s h = (set_readable a s.0 (sorted_left (kept_set a) (kept_set b) h), set_readable b s.1 (sorted_right (kept_set a) (kept_set b) h))
  lit_readable n (Inside a b) s h = (int_readable a s.0 (sorted_left (int_uses a) (kept_set b) h), set_readable b s.1 (sorted_right (int_uses a) (kept_set b) h))
  lit_readable n (Negation p l) s h = lit_readable (not n) l s h

  item_readable : (i : ItemTree) → ItemSmall i → ((l : LitTree) → Among l (item_lits i) → Sorted (kept_lit false l)) → ItemReadable sc i
  item_readable TrueItem s h = tt
  item_readable (LitItem l) s h = lit_readable false l s (h l (inl refl))

  pub pure_readable : (p : PureTree) → PureSmall p → ((l : LitTree) → Among l (pure_lits p) → Sorted (kept_lit false l)) → PureReadable sc p
  pure_readable NoItems s h = tt
  pure_readable (Items i is) s h = (
    item_readable i s.0 (λ l m. h l (Among-left l (item_lits i) (flat_map others is) m)),
    all_by (λ (p : Conjunction × ItemTree). ItemSmall p.1) (λ (p : Conjunction × ItemTree). ItemReadable sc p.1) is
        (λ p m k. item_readable p.1 k (λ l n. h l (Among-right l (item_lits i) (flat_map others is) (flat_in others l p is m n)))) s.1,
  )
    where
      others : Conjunction × ItemTree → List LitTree
      others p = item_lits p.1

  -- ---- chunks

  arg_readable : (s : Sort) → s ≢ Card → (x : ArgTree) → ArgSmall x → Sorted (arg_uses kept_parts (Some s) x) → ArgReadable sc s x
  arg_readable Card n x k h = absurd (n refl)
  arg_readable Set n (TermArg (Named i)) k h = sorted_one Set i h
  arg_readable Int n (TermArg (Named i)) k h = sorted_one Int i h
  arg_readable s n (TermArg t) k h = int_readable t k h
  arg_readable s n (BracesArg p ts us) k h = (
    part_readable (Braces p ts) k.0 (sorted_part (Braces p ts) (Braces p ts ∷ us) (inl refl) h),
    parts_readable (Braces p ts ∷ us) us (λ w m. inr m) k.1 h,
  )
  arg_readable s n (UnionArg i u us) k h = (
    part_readable (PartName i) tt (sorted_part (PartName i) (PartName i ∷ u ∷ us) (inl refl) h),
    part_readable u k.0 (sorted_part u (PartName i ∷ u ∷ us) (inr (inl refl)) h),
    parts_readable (PartName i ∷ u ∷ us) us (λ w m. inr (inr m)) k.1 h,
  )

  pub args_readable : (ss : List Sort) → ((s : Sort) → Among s ss → s ≢ Card) → (xs : List ArgTree) → All ArgSmall xs → Sorted (args_uses kept_parts ss xs) → ArgsReadable sc ss xs
  args_readable [] n xs k h = tt
  args_readable (s ∷ ss) n [] k h = tt
  args_readable (s ∷ ss) n (x ∷ xs) k h = (
    arg_readable s (n s (inl refl)) x (All-head ArgSmall x xs k) (sorted_left (arg_uses kept_parts (Some s) x) (args_uses kept_parts ss xs) h),
    args_readable ss (λ r m. n r (inr m)) xs (All-tail ArgSmall x xs k) (sorted_right (arg_uses kept_parts (Some s) x) (args_uses kept_parts ss xs) h),
  )

  pub chunk_readable : (qs : List PredTree) → length qs < 256 → (c : ChunkTree) → ChunkSmall c → Sorted (chunk_uses kept_parts qs c) → ChunkReadable qs sc c
  chunk_readable qs few (NamedCell i t) k h = (sorted_one Int i (sorted_left (use_of Int i ∷ []) (int_uses t) h), int_readable t k (sorted_right (use_of Int i ∷ []) (int_uses t) h))
  chunk_readable qs few (TermCell a t) k h = (int_readable a k.0 (sorted_left (int_uses a) (int_uses t) h), int_readable t k.1 (sorted_right (int_uses a) (int_uses t) h))
  chunk_readable qs few (BlockOf a p n) k h = int_readable a k h
  chunk_readable qs few (InstanceOf i xs) k h = (place_below qs few, args_readable (arg_sorts qs i xs) (arg_sorts_plain qs i xs) xs k h)
    where
      place_within : (ps : List PredTree) → pred_place i.text ps ≤ length ps
      place_within [] = omega arith
      place_within (p ∷ ps) = by_test (bytes_eq p.name.text i.text) (place_within ps)
        where
          by_test : (b : Bool) → pred_place i.text ps ≤ length ps → cond b 0 (suc (pred_place i.text ps)) ≤ suc (length ps)
          by_test true e = omega arith
          by_test false e = omega (arith, e)

      place_below : (ps : List PredTree) → length ps < 256 → pred_place i.text ps < 256
      place_below ps l = omega (arith, place_within ps, l)
