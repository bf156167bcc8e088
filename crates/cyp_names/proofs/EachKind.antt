-- Items of one kind after those of another.
use Rattle.std.proofs.Common.{List, [], add-one, ap, append_assoc, cond, drop, drop-cons, false, filter, flat_map, get_or, length, refl, suc, sym, true, zero, ℕ, ◌+◌, ◌++◌, ◌<◌, ◌∙◌, ◌∷◌, ◌≡◌}
use Rattle.std.specs.Prelude.{Bool, not, slice_get}
use Rattle.std.proofs.lemmas.Grind.{flat_map-append}
use Rattle.cyp_lex.specs.declared.ident.Ident.{Ident}
use Rattle.cyp_names.specs.Orders.{body_in, chunk_of_kind, chunks_in, item_uses, kind_uses, lit_in, parts_in, term_arg_uses}
use Rattle.cyp_names.specs.declared.body_uses.ChunkKinds.TheVariants.{Blocks, Cells, Instances}
use Rattle.cyp_names.specs.declared.uses.Order.{Order}
use Rattle.cyp_names.specs.declared.uses.Order.TheVariants.{AsKept, OfText}
use Rattle.cyp_names.specs.declared.uses.PartKinds.TheVariants.{BraceParts, NameParts}
use Rattle.cyp_term.specs.declared.term.Sort.{Sort}
use Rattle.cyp_names.specs.Bodies.{in_kinds, is_block, is_cell, is_instance, is_name, item_lits, pure_lits}
use Rattle.cyp_names.specs.Uses.{Use, arg_uses, args_uses, chunk_uses, part_uses}
use Rattle.cyp_text.specs.declared.tree.ArgTree.{ArgTree}
use Rattle.cyp_text.specs.declared.tree.ArgTree.TheVariants.{BracesArg, TermArg, UnionArg}
use Rattle.cyp_text.specs.declared.tree.BodyTree.{BodyTree}
use Rattle.cyp_text.specs.declared.tree.ChunkTree.{ChunkTree}
use Rattle.cyp_text.specs.declared.tree.Conjunction.{Conjunction}
use Rattle.cyp_text.specs.declared.tree.IntTree.{IntTree}
use Rattle.cyp_text.specs.declared.tree.IntTree.TheVariants.{MinusNum, NameMinus, NamePlus, Named, Num, NumPlus}
use Rattle.cyp_text.specs.declared.tree.ItemTree.{ItemTree}
use Rattle.cyp_text.specs.declared.tree.PartTree.{PartTree}
use Rattle.cyp_text.specs.declared.tree.PartTree.TheVariants.{Braces, PartName}
use Rattle.cyp_text.specs.declared.tree.PredTree.{PredTree}
use Rattle.cyp_text.specs.declared.tree.PureTree.{PureTree}
use Rattle.cyp_text.specs.declared.tree.PureTree.TheVariants.{Items}
use Rattle.std.specs.Prelude.{None, Option, Some}

-- those that the test takes, or the others as nothing
flat_map-filter : {A B : Type 0} (p : A → Bool) (f : A → List B) (xs : List A) → flat_map (λ x. cond (p x) (f x) []) xs ≡ flat_map f (filter p xs)
flat_map-filter p f [] = refl
flat_map-filter {A} {B} p f (x ∷ xs) = by_test (p x) (flat_map-filter p f xs)
  where
    by_test : (t : Bool) → flat_map (λ y. cond (p y) (f y) []) xs ≡ flat_map f (filter p xs)
        → cond t (f x) [] ++ flat_map (λ y. cond (p y) (f y) []) xs ≡ flat_map f (cond t (x ∷ filter p xs) (filter p xs))
    by_test true ih = ap (λ (zs : List B). f x ++ zs) ih
    by_test false ih = ih

flat_map-flat_map : {A B C : Type 0} (f : B → List C) (g : A → List B) (xs : List A) → flat_map f (flat_map g xs) ≡ flat_map (λ x. flat_map f (g x)) xs
flat_map-flat_map f g [] = refl
flat_map-flat_map {A} {B} {C} f g (x ∷ xs) = flat_map-append f (g x) (flat_map g xs) ∙ ap (λ (zs : List C). flat_map f (g x) ++ zs) (flat_map-flat_map f g xs)

-- ---- parts

kept_parts-kinds : (us : List PartTree) → parts_in AsKept us ≡ flat_map (kind_uses NameParts) us ++ flat_map (kind_uses BraceParts) us
kept_parts-kinds us = sym (λ i. flat_map-filter is_name part_uses us i ++ flat_map-filter (λ u. not (is_name u)) part_uses us i)

-- what a call added to nothing, and what one after another added
pub added_alone : (old one xs : List Use) → old ≡ [] → one ≡ old ++ xs → one ≡ xs
added_alone old one xs none e = e ∙ ap (λ (zs : List Use). zs ++ xs) none

pub added_twice : (old one two xs ys whole : List Use) → one ≡ old ++ xs → two ≡ one ++ ys → xs ++ ys ≡ whole → two ≡ old ++ whole
added_twice old one two xs ys whole e f w =
    f ∙ ap (λ (zs : List Use). zs ++ ys) e ∙ append_assoc old xs ys ∙ ap (λ (zs : List Use). old ++ zs) w

pub kept_union : (o : Order) (old one two : List Use) (us : List PartTree)
    → o ≡ AsKept → one ≡ old ++ flat_map (kind_uses NameParts) us → two ≡ one ++ flat_map (kind_uses BraceParts) us → two ≡ old ++ parts_in o us
kept_union o old one two us k e f =
    added_twice old one two (flat_map (kind_uses NameParts) us) (flat_map (kind_uses BraceParts) us) (parts_in o us) e f
    (sym (kept_parts-kinds us) ∙ ap (λ (p : Order). parts_in p us) (sym k))

term_arg : (parts : List PartTree → List Use) (s : Option Sort) (t : IntTree) → arg_uses parts s (TermArg t) ≡ term_arg_uses s t
term_arg parts None (Named i) = refl
term_arg parts (Some s) (Named i) = refl
term_arg parts None (Num p n) = refl
term_arg parts (Some s) (Num p n) = refl
term_arg parts None (MinusNum p n) = refl
term_arg parts (Some s) (MinusNum p n) = refl
term_arg parts None (NamePlus i n) = refl
term_arg parts (Some s) (NamePlus i n) = refl
term_arg parts None (NameMinus i n) = refl
term_arg parts (Some s) (NameMinus i n) = refl
term_arg parts None (NumPlus p n i) = refl
term_arg parts (Some s) (NumPlus p n i) = refl

braces_arg : (parts : List PartTree → List Use) (s : Option Sort) (p : ℕ) (ts : List IntTree) (us : List PartTree) → arg_uses parts s (BracesArg p ts us) ≡ parts (Braces p ts ∷ us)
braces_arg parts None p ts us = refl
braces_arg parts (Some s) p ts us = refl

union_arg : (parts : List PartTree → List Use) (s : Option Sort) (i : Ident) (u : PartTree) (us : List PartTree) → arg_uses parts s (UnionArg i u us) ≡ parts (PartName i ∷ u ∷ us)
union_arg parts None i u us = refl
union_arg parts (Some s) i u us = refl

-- the names of an argument are added, where those are added that it has by its kind
module _ (parts : List PartTree → List Use) (s : Option Sort) (a : ArgTree) (old two : List Use) where
  pub term_added : (t : IntTree) → a ≡ TermArg t → two ≡ old ++ term_arg_uses s t → two ≡ old ++ arg_uses parts s a
  term_added t is e = e ∙ ap (λ (zs : List Use). old ++ zs) (sym (ap (arg_uses parts s) is ∙ term_arg parts s t))

  pub braces_added : (p : ℕ) (ts : List IntTree) (us : List PartTree) → a ≡ BracesArg p ts us → two ≡ old ++ parts (Braces p ts ∷ us) → two ≡ old ++ arg_uses parts s a
  braces_added p ts us is e = e ∙ ap (λ (zs : List Use). old ++ zs) (sym (ap (arg_uses parts s) is ∙ braces_arg parts s p ts us))

  pub union_added : (i : Ident) (u : PartTree) (us : List PartTree) → a ≡ UnionArg i u us → two ≡ old ++ parts (PartName i ∷ u ∷ us) → two ≡ old ++ arg_uses parts s a
  union_added i u us is e = e ∙ ap (λ (zs : List Use). old ++ zs) (sym (ap (arg_uses parts s) is ∙ union_arg parts s i u us))

-- one argument more
module _ (parts : List PartTree → List Use) where
  args_turn : (ss : List Sort) (k : ℕ) (x : ArgTree) (xs : List ArgTree)
      → args_uses parts (drop k ss) (x ∷ xs) ≡ arg_uses parts (slice_get ss k) x ++ args_uses parts (drop (suc k) ss) xs
  args_turn [] zero x xs = refl
  args_turn [] (suc k) x xs = refl
  args_turn (s ∷ ss) zero x xs = refl
  args_turn (s ∷ ss) (suc k) x xs = args_turn ss k x xs

  pub arg_added : (ss : List Sort) (xs : List ArgTree) (k : ℕ) (x : ArgTree) (s : Option Sort) (one two whole : List Use)
      → k < length xs → x ≡ get_or xs k x → s ≡ slice_get ss k → two ≡ one ++ arg_uses parts s x
      → one ++ args_uses parts (drop k ss) (drop k xs) ≡ whole
      → two ++ args_uses parts (drop (k + 1) ss) (drop (k + 1) xs) ≡ whole
  arg_added ss xs k x s one two whole below is sort e w =
      let left : List ArgTree = drop (suc k) xs in
      let rest : List Use = args_uses parts (drop (suc k) ss) left in
      let args : drop k xs ≡ x ∷ left = drop-cons xs k x below ∙ ap (λ (y : ArgTree). y ∷ left) (sym is) in
      let here : args_uses parts (drop k ss) (drop k xs) ≡ arg_uses parts s x ++ rest =
      ap (args_uses parts (drop k ss)) args ∙ args_turn ss k x left ∙ ap (λ (r : Option Sort). arg_uses parts r x ++ rest) (sym sort) in
      rw (add-one, e) (append_assoc one (arg_uses parts s x) rest ∙ ap (λ (zs : List Use). one ++ zs) (sym here) ∙ w)

-- ---- chunks and items

three : {A B : Type 0} (f : A → List B) (xs ys zs : List A) → flat_map f (xs ++ ys ++ zs) ≡ flat_map f xs ++ flat_map f ys ++ flat_map f zs
three {A} {B} f xs ys zs = flat_map-append f (xs ++ ys) zs ∙ ap (λ (ws : List B). ws ++ flat_map f zs) (flat_map-append f xs ys)

kept_chunks-kinds : (o : Order) (qs : List PredTree) (cs : List ChunkTree)
    → flat_map (chunk_uses (parts_in o) qs) (in_kinds cs)
    ≡ flat_map (chunk_of_kind Instances o qs) cs ++ flat_map (chunk_of_kind Blocks o qs) cs ++ flat_map (chunk_of_kind Cells o qs) cs
kept_chunks-kinds o qs cs =
    let f : ChunkTree → List Use = chunk_uses (parts_in o) qs in
    three f (filter is_instance cs) (filter is_block cs) (filter is_cell cs)
    ∙ sym (λ i. flat_map-filter is_instance f cs i ++ flat_map-filter is_block f cs i ++ flat_map-filter is_cell f cs i)

pub kept_chunks : (o : Order) (qs : List PredTree) (cs : List ChunkTree) (old one two last : List Use)
    → o ≡ AsKept → one ≡ old ++ flat_map (chunk_of_kind Instances o qs) cs → two ≡ one ++ flat_map (chunk_of_kind Blocks o qs) cs
    → last ≡ two ++ flat_map (chunk_of_kind Cells o qs) cs → last ≡ old ++ flat_map (chunk_uses (parts_in o) qs) (chunks_in o cs)
kept_chunks o qs cs old one two last k e f g =
    let instances : List Use = flat_map (chunk_of_kind Instances o qs) cs in
    let blocks : List Use = flat_map (chunk_of_kind Blocks o qs) cs in
    added_twice old two last (instances ++ blocks) (flat_map (chunk_of_kind Cells o qs) cs) (flat_map (chunk_uses (parts_in o) qs) (chunks_in o cs))
    (added_twice old one two instances blocks (instances ++ blocks) e f refl) g
    (sym (kept_chunks-kinds o qs cs) ∙ ap (λ (p : Order). flat_map (chunk_uses (parts_in o) qs) (chunks_in p cs)) (sym k))

items_after : (o : Order) (first : ItemTree) (is : List (Conjunction × ItemTree))
    → flat_map (lit_in o) (item_lits first ++ flat_map (λ (p : Conjunction × ItemTree). item_lits p.1) is) ≡ item_uses o first ++ flat_map (λ (p : Conjunction × ItemTree). item_uses o p.1) is
items_after o first is =
    flat_map-append (lit_in o) (item_lits first) (flat_map (λ (p : Conjunction × ItemTree). item_lits p.1) is)
    ∙ ap (λ (zs : List Use). item_uses o first ++ zs) (flat_map-flat_map (lit_in o) (λ (p : Conjunction × ItemTree). item_lits p.1) is)

pub items_added : (o : Order) (q : PureTree) (first : ItemTree) (others is : List (Conjunction × ItemTree)) (old one two : List Use)
    → q ≡ Items first others → is ≡ others → one ≡ old ++ item_uses o first → two ≡ one ++ flat_map (λ (p : Conjunction × ItemTree). item_uses o p.1) is
    → two ≡ old ++ flat_map (lit_in o) (pure_lits q)
items_added o q first others is old one two k same e f =
    added_twice old one two (item_uses o first) (flat_map (λ (p : Conjunction × ItemTree). item_uses o p.1) is) (flat_map (lit_in o) (pure_lits q)) e f
    (sym (items_after o first is) ∙ ap (λ (r : PureTree). flat_map (lit_in o) (pure_lits r)) (ap (Items first) same ∙ sym k))

-- a body in either order is its literals and its chunks in that order
body_parts : (o : Order) (qs : List PredTree) (b : BodyTree) → body_in o qs b ≡ flat_map (lit_in o) (pure_lits b.pure) ++ flat_map (chunk_uses (parts_in o) qs) (chunks_in o b.chunks)
body_parts OfText qs b = refl
body_parts AsKept qs b = refl

pub body_added : (o : Order) (qs : List PredTree) (b : BodyTree) (cs : List ChunkTree) (old one two : List Use)
    → cs ≡ b.chunks → one ≡ old ++ flat_map (lit_in o) (pure_lits b.pure) → two ≡ one ++ flat_map (chunk_uses (parts_in o) qs) (chunks_in o cs)
    → two ≡ old ++ body_in o qs b
body_added o qs b cs old one two chunks e f =
    let lits : List Use = flat_map (lit_in o) (pure_lits b.pure) in
    added_twice old one two lits (flat_map (chunk_uses (parts_in o) qs) (chunks_in o cs)) (body_in o qs b) e f
    (ap (λ (ds : List ChunkTree). lits ++ flat_map (chunk_uses (parts_in o) qs) (chunks_in o ds)) chunks ∙ sym (body_parts o qs b))
