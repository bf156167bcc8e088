-- Live leaves by recursion on the tree, and those of reached numbers.
use Rattle.std.proofs.Common.{◌≡◌, refl, sym, ◌∙◌, ap, subst, ℕ, zero, suc, ◌+◌, ◌-◌, ◌≤◌, ◌<◌, ◌⊎◌, inl, inr, Bool, true, List, [], ◌∷◌, ◌++◌, map, length, Some, None, arith}
use Rattle.std.specs.List.{slice_get, Contains}
use Rattle.std.proofs.lemmas.Bool.{cases_eq}
use Rattle.std.proofs.lemmas.List.{map-append}
use Rattle.std.proofs.lemmas.List.Elements.{Contains-append_left, Contains-append_right, Contains-append_cases}
use Rattle.cyp_tree.specs.declared.mark.Mark.{Mark}
use Rattle.cyp_tree.specs.declared.mark.Mark.TheVariants.{Undecided, Solved, Failed}
use Rattle.cyp_tree.specs.declared.places.Run.{Run}
use Rattle.cyp_tree.specs.declared.places.Place.{Place}
use Rattle.cyp_tree.specs.declared.places.Way.{Way}
use Rattle.cyp_tree.specs.Trees.{Tree, Leaf, Grown, Alts, NoAlt, AltThen, Parts, NoPart, PartThen}
use Rattle.cyp_tree.specs.Statuses.{status, alts_status, parts_status}
use Rattle.cyp_tree.specs.Live.{Waiting, where_open, unless_failed, live_leaves, live_alts, live_parts}
use Rattle.cyp_tree.specs.Standing.{run_of, Stands, AltsStand, PartsStand, IsIn, GoesDown, IsLinked}
use Rattle.cyp_tree.specs.Told.{way_sum, IsTold, AreReached}
use Rattle.cyp_tree.proofs.Singles.{nothing_in}
use Rattle.cyp_tree.proofs.Runs.{some_at, there_below, get_run, get_run_at}
use Rattle.cyp_tree.proofs.Telling.{status_told, parts_told}

abbrev mutual
  -- the number is that of a live leaf
  pub LiveIn : {R N : Type 0} → ℕ → Tree R N → Type 0
  LiveIn k (Leaf j n) = j ≡ k
  LiveIn k (Grown j n as') = (alts_status as' ≡ Undecided) × LiveInAlts k as'

  pub LiveInAlts : {R N : Type 0} → ℕ → Alts R N → Type 0
  LiveInAlts k NoAlt = ⊥
  LiveInAlts k (AltThen r c ps as') = ((parts_status ps ≡ Failed → ⊥) × LiveInParts k ps) ⊎ LiveInAlts k as'

  pub LiveInParts : {R N : Type 0} → ℕ → Parts R N → Type 0
  LiveInParts k NoPart = ⊥
  LiveInParts k (PartThen t ps) = LiveIn k t ⊎ LiveInParts k ps

-- ---- in the list of live leaves

abbrev numbers : {N : Type 0} → List (Waiting N) → List ℕ
numbers ws = map (λ w. w.number) ws

split : {N : Type 0} (xs ys : List (Waiting N)) (k : ℕ) → Contains (numbers (xs ++ ys)) k → Contains (numbers xs) k ⊎ Contains (numbers ys) k
split xs ys k h = Contains-append_cases (numbers xs) (numbers ys) k (subst (λ (l : List ℕ). Contains l k) (map-append _ xs ys) h)

join_left : {N : Type 0} (xs ys : List (Waiting N)) (k : ℕ) → Contains (numbers xs) k → Contains (numbers (xs ++ ys)) k
join_left xs ys k h = subst (λ (l : List ℕ). Contains l k) (sym (map-append _ xs ys)) (Contains-append_left (numbers xs) (numbers ys) k h)

join_right : {N : Type 0} (xs ys : List (Waiting N)) (k : ℕ) → Contains (numbers ys) k → Contains (numbers (xs ++ ys)) k
join_right xs ys k h = subst (λ (l : List ℕ). Contains l k) (sym (map-append _ xs ys)) (Contains-append_right (numbers xs) (numbers ys) k h)

where_open_in : {N : Type 0} (s : Mark) (xs : List (Waiting N)) (k : ℕ) → Contains (numbers (where_open s xs)) k → (s ≡ Undecided) × Contains (numbers xs) k
where_open_in Undecided xs k h = (refl, h)
where_open_in Solved xs k h = absurd (nothing_in k h)
where_open_in Failed xs k h = absurd (nothing_in k h)

in_where_open : {N : Type 0} (s : Mark) (xs : List (Waiting N)) (k : ℕ) → s ≡ Undecided → Contains (numbers xs) k → Contains (numbers (where_open s xs)) k
in_where_open s xs k e h = subst (λ (z : Mark). Contains (numbers (where_open z xs)) k) (sym e) h

unless_failed_in : {N : Type 0} (s : Mark) (xs : List (Waiting N)) (k : ℕ) → Contains (numbers (unless_failed s xs)) k → (s ≡ Failed → ⊥) × Contains (numbers xs) k
unless_failed_in Undecided xs k h = ((λ e. cc), h)
unless_failed_in Solved xs k h = ((λ e. cc), h)
unless_failed_in Failed xs k h = absurd (nothing_in k h)

in_unless_failed : {N : Type 0} (s : Mark) (xs : List (Waiting N)) (k : ℕ) → (s ≡ Failed → ⊥) → Contains (numbers xs) k → Contains (numbers (unless_failed s xs)) k
in_unless_failed Undecided xs k e h = h
in_unless_failed Solved xs k e h = h
in_unless_failed Failed xs k e h = absurd (e refl)

only_number : (k j : ℕ) → Contains (j ∷ []) k → j ≡ k
only_number k j (zero, h, e) = e
only_number k j (suc i, h, e) = absurd (omega arith)

module _ {R N : Type 0} (weight : N → ℕ) (k : ℕ) where
  mutual
    pub live_listed : (c : ℕ) (t : Tree R N) → LiveIn k t → Contains (numbers (live_leaves weight c t)) k
    live_listed c (Leaf j n) e = (0, omega arith, e)
    live_listed c (Grown j n as') (e, h) = in_where_open (alts_status as') (live_alts weight c as') k e (alts_listed c as' h)

    alts_listed : (c : ℕ) (as' : Alts R N) → LiveInAlts k as' → Contains (numbers (live_alts weight c as')) k
    alts_listed c NoAlt h = absurd h
    alts_listed c (AltThen r d ps as') (inl h) =
        join_left (unless_failed (parts_status ps) (live_parts weight (c + d) ps)) (live_alts weight c as') k
        (in_unless_failed (parts_status ps) (live_parts weight (c + d) ps) k h.0 (parts_listed (c + d) ps h.1))
    alts_listed c (AltThen r d ps as') (inr h) = join_right (unless_failed (parts_status ps) (live_parts weight (c + d) ps)) (live_alts weight c as') k (alts_listed c as' h)

    parts_listed : (c : ℕ) (ps : Parts R N) → LiveInParts k ps → Contains (numbers (live_parts weight c ps)) k
    parts_listed c NoPart h = absurd h
    parts_listed c (PartThen t ps) (inl h) = join_left (live_leaves weight c t) (live_parts weight c ps) k (live_listed c t h)
    parts_listed c (PartThen t ps) (inr h) = join_right (live_leaves weight c t) (live_parts weight c ps) k (parts_listed c ps h)

  mutual
    pub listed_live : (c : ℕ) (t : Tree R N) → Contains (numbers (live_leaves weight c t)) k → LiveIn k t
    listed_live c (Leaf j n) h = only_number k j h
    listed_live c (Grown j n as') h =
        let z : (alts_status as' ≡ Undecided) × Contains (numbers (live_alts weight c as')) k = where_open_in (alts_status as') (live_alts weight c as') k h in
        (z.0, listed_alts c as' z.1)

    listed_alts : (c : ℕ) (as' : Alts R N) → Contains (numbers (live_alts weight c as')) k → LiveInAlts k as'
    listed_alts c NoAlt h = absurd (nothing_in k h)
    listed_alts c (AltThen r d ps as') h = elim (split (unless_failed (parts_status ps) (live_parts weight (c + d) ps)) (live_alts weight c as') k h) [
      | inl z ↦
          let y : (parts_status ps ≡ Failed → ⊥) × Contains (numbers (live_parts weight (c + d) ps)) k = unless_failed_in (parts_status ps) (live_parts weight (c + d) ps) k z in
          inl (y.0, listed_parts (c + d) ps y.1)
      | inr z ↦ inr (listed_alts c as' z)
    ]

    listed_parts : (c : ℕ) (ps : Parts R N) → Contains (numbers (live_parts weight c ps)) k → LiveInParts k ps
    listed_parts c NoPart h = absurd (nothing_in k h)
    listed_parts c (PartThen t ps) h = elim (split (live_leaves weight c t) (live_parts weight c ps) k h) [
      | inl z ↦ inl (listed_live c t z)
      | inr z ↦ inr (listed_parts c ps z)
    ]

-- ---- where statuses are told and numbers reached

-- a tree with a live leaf is open
pub live_is_open : {R N : Type 0} (k : ℕ) (t : Tree R N) → LiveIn k t → status t ≡ Undecided
live_is_open k (Leaf j n) h = refl
live_is_open k (Grown j n as') (e, h) = e

-- the number of a leaf
abbrev pub IsLeafAt : {N : Type 0} → List (Place N) → ℕ → Type 0
IsLeafAt {N} ps k = (p : Place N) × (slice_get ps k ≡ Some p) × (p.ways ≡ None)

module _ {R N : Type 0} (s : ℕ → Mark) (reached : ℕ → Bool) (ps : List (Place N)) (ws : List (Way R)) (link : IsLinked ps ws) (told : IsTold s ps ws)
    (reach : AreReached s reached ps ws) (k : ℕ) where
  mutual
    -- a live leaf under what is reached is reached
    pub live_reached : (a : ℕ) (t : Tree R N) → Stands ps ws a t → reached a ≡ true → LiveIn k t → (reached k ≡ true) × IsLeafAt ps k
    live_reached a (Leaf j n) (e, (p, g, x, y)) r h =
        let same : a ≡ k = sym e ∙ h in
        (subst (λ (i : ℕ). reached i ≡ true) same r, (p, subst (λ (i : ℕ). slice_get ps i ≡ Some p) same g, y))
    live_reached a (Grown j n as') (e, (p, q, g, x, y, z)) r (o, h) =
        alts_reached a q.first (run_of ws q) as' z (λ i w l. (get_run q.first q.count i ws w l).1)
        (λ i w l. let f : (i < q.count) × (slice_get ws (q.first + i) ≡ Some w) = get_run q.first q.count i ws w l in
        link.run_above a p q (q.first + i) w g y (record { low = omega arith; high = omega arith }) f.1) r h

    alts_reached : (a f : ℕ) (ys : List (Way R)) (as' : Alts R N) → AltsStand ps ws ys as' → ((i : ℕ) (y : Way R) → slice_get ys i ≡ Some y → slice_get ws (f + i) ≡ Some y)
        → ((i : ℕ) (y : Way R) → slice_get ys i ≡ Some y → y.above ≡ a) → reached a ≡ true → LiveInAlts k as' → (reached k ≡ true) × IsLeafAt ps k
    alts_reached a f ys NoAlt e u v r h = absurd h
    alts_reached a f ys (AltThen rule d qs as') (y, more, e, x, b, p, z) u v r (inl h) =
        let first : slice_get ys 0 ≡ Some y = ap (λ (l : List (Way R)). slice_get l 0) e in
        parts_reached a (f + 0) y (u 0 y first) (v 0 y first) y.parts.first y.parts.count qs p (λ i l m. record { low = l; high = m }) r
        (λ bad. h.0 (parts_told s ps ws told y.parts.first y.parts.count qs p ∙ bad)) h.1
    alts_reached a f ys (AltThen rule d qs as') (y, more, e, x, b, p, z) u v r (inr h) =
        alts_reached a (suc f) more as' z
        (λ i w l. subst (λ (m : ℕ). slice_get ws m ≡ Some w) (let same : f + suc i ≡ suc f + i = omega arith in same) (u (suc i) w (ap (λ (m : List (Way R)). slice_get m (suc i)) e ∙ l)))
        (λ i w l. v (suc i) w (ap (λ (m : List (Way R)). slice_get m (suc i)) e ∙ l)) r h

    parts_reached : (a w : ℕ) (y : Way R) → slice_get ws w ≡ Some y → y.above ≡ a → (j c : ℕ) (qs : Parts R N) → PartsStand ps ws j c qs
        → ((i : ℕ) → j ≤ i → i < j + c → IsIn i y.parts) → reached a ≡ true → (way_sum s y ≡ Failed → ⊥) → LiveInParts k qs → (reached k ≡ true) × IsLeafAt ps k
    parts_reached a w y g above j c NoPart e inside r good h = absurd h
    parts_reached a w y g above j c (PartThen t qs) (b, e, z, m) inside r good (inl h) =
        let here : IsIn j y.parts = inside j (omega arith) (omega arith) in
        let fits : y.parts.first + y.parts.count ≤ length ps = link.parts w y g in
        let at : (p : Place N) × (slice_get ps j ≡ Some p) = some_at ps j (let less : j < y.parts.first + y.parts.count = here.high in omega arith) in
        let way : at.0.above ≡ w = link.part_above w y j at.0 g here at.1 in
        let rises : y.above < y.parts.first = link.rising w y g in
        let low : y.parts.first ≤ j = here.low in
        live_reached j t z
        (reach.down j at.0 y at.1 (omega arith) (ap (slice_get ws) way ∙ g) (sym (status_told s ps ws told j t z) ∙ live_is_open k t h) good (subst (λ (i : ℕ). reached i ≡ true) (sym above) r)) h
    parts_reached a w y g above j c (PartThen t qs) (b, e, z, m) inside r good (inr h) =
        parts_reached a w y g above (suc j) b qs m (λ i l u. inside i (omega arith) (omega arith)) r good h

  -- the way to a live part
  in_parts : (a j c : ℕ) (qs : Parts R N) → PartsStand ps ws j c qs → j ≤ a → a < j + c → ((t : Tree R N) → Stands ps ws a t → LiveIn k t) → LiveInParts k qs
  in_parts a j c NoPart e l m h = absurd (omega arith)
  in_parts a j c (PartThen t qs) (b, e, z, p) l m h = elim (cases_eq j a) [
    | inl same ↦ inl (h t (subst (λ (i : ℕ). Stands ps ws i t) same z))
    | inr other ↦ inr (in_parts a (suc j) b qs p (omega arith) (omega arith) h)
  ]

  in_alts : (a i : ℕ) (ys : List (Way R)) (y : Way R) (as' : Alts R N) → AltsStand ps ws ys as' → slice_get ys i ≡ Some y → IsIn a y.parts → (way_sum s y ≡ Failed → ⊥)
      → ((t : Tree R N) → Stands ps ws a t → LiveIn k t) → LiveInAlts k as'
  in_alts a i ys y NoAlt e g here good h = absurd (let bad : None ≡ Some y = sym (ap (λ (l : List (Way R)). slice_get l i) e) ∙ g in cc)
  in_alts a zero ys y (AltThen r d qs as') (w, more, e, x, b, p, z) g here good h =
      let same : w ≡ y = (let eq : Some w ≡ Some y = sym (ap (λ (l : List (Way R)). slice_get l 0) e) ∙ g in cc) in
      let p' : PartsStand ps ws y.parts.first y.parts.count qs = subst (λ (v : Way R). PartsStand ps ws v.parts.first v.parts.count qs) same p in
      inl ((λ bad. good (sym (parts_told s ps ws told y.parts.first y.parts.count qs p') ∙ bad)), in_parts a y.parts.first y.parts.count qs p' here.low here.high h)
  in_alts a (suc i) ys y (AltThen r d qs as') (w, more, e, x, b, p, z) g here good h =
      inr (in_alts a i more y as' z (sym (ap (λ (l : List (Way R)). slice_get l (suc i)) e) ∙ g) here good h)

  in_tree : (u w a : ℕ) (y : Way R) (p : Place N) (r : Run) (t : Tree R N) → slice_get ws w ≡ Some y → slice_get ps u ≡ Some p → p.ways ≡ Some r → IsIn w r → IsIn a y.parts
      → s u ≡ Undecided → (way_sum s y ≡ Failed → ⊥) → ((t : Tree R N) → Stands ps ws a t → LiveIn k t) → Stands ps ws u t → LiveIn k t
  in_tree u w a y p r (Leaf j n) g l m run here o good h (e, (q, f, x, z)) =
      absurd (let same : p ≡ q = (let eq : Some p ≡ Some q = sym l ∙ f in cc) in let bad : Some r ≡ None = sym m ∙ ap (λ (v : Place N). v.ways) same ∙ z in cc)
  in_tree u w a y p r (Grown j n as') g l m run here o good h (e, (q, v, f, x, z, all)) =
      let same : p ≡ q = (let eq : Some p ≡ Some q = sym l ∙ f in cc) in
      let runs : v ≡ r = (let eq : Some v ≡ Some r = sym z ∙ sym (ap (λ (b : Place N). b.ways) same) ∙ m in cc) in
      let all' : AltsStand ps ws (run_of ws r) as' = subst (λ (b : Run). AltsStand ps ws (run_of ws b) as') runs all in
      (status_told s ps ws told u (Grown j n as') (e, (q, v, f, x, z, all)) ∙ o, in_alts a (w - r.first) (run_of ws r) y as' all' (get_run_at r.first r.count w ws y run.low run.high g) here good h)

  -- what is reached leads up to the root
  up : (m a : ℕ) → a ≤ m → reached a ≡ true → a < length ps → ((t : Tree R N) → Stands ps ws a t → LiveIn k t) → (t : Tree R N) → Stands ps ws 0 t → LiveIn k t
  up zero a l r b h = subst (λ (i : ℕ). (t : Tree R N) → Stands ps ws i t → LiveIn k t) (let same : a ≡ 0 = omega arith in same) h
  up (suc m) a l r b h = elim (cases_eq a 0) [
    | inl same ↦ subst (λ (i : ℕ). (t : Tree R N) → Stands ps ws i t → LiveIn k t) same h
    | inr other ↦
        let at : (p : Place N) × (slice_get ps a ≡ Some p) = some_at ps a b in
        let goes : (y : Way R) × GoesDown ps ws a at.0 y = link.in_way a at.0 at.1 (omega arith) in
        let run : (p : Place N) × (r : Run) × (slice_get ps goes.0.above ≡ Some p) × (p.ways ≡ Some r) × IsIn at.0.above r = link.in_run at.0.above goes.0 goes.1.way in
        let rises : goes.0.above < goes.0.parts.first = link.rising at.0.above goes.0 goes.1.way in
        let low : goes.0.parts.first ≤ a = goes.1.here.low in
        let higher : reached goes.0.above ≡ true = reach.above a at.0 goes.0 at.1 (omega arith) goes.1.way r in
        up m goes.0.above (omega arith) higher (omega arith)
        (λ t z. in_tree goes.0.above at.0.above a goes.0 run.0 run.1 t goes.1.way run.2 run.3 run.4 goes.1.here (reach.undecided goes.0.above higher)
        (reach.unfailed a at.0 goes.0 at.1 (omega arith) goes.1.way r) h z)
  ]

  leaf_alone : (t : Tree R N) → IsLeafAt ps k → Stands ps ws k t → LiveIn k t
  leaf_alone (Leaf j n) (q, f, w) (e, h) = e
  leaf_alone (Grown j n as') (q, f, w) (e, (p, r, g, a, b, h)) = absurd (let same : p ≡ q = (let eq : Some p ≡ Some q = sym g ∙ f in cc) in let bad : Some r ≡ None = sym b ∙ ap (λ (v : Place N). v.ways) same ∙ w in cc)

  -- a leaf that is reached is live
  pub reached_live : (t : Tree R N) → Stands ps ws 0 t → reached k ≡ true → IsLeafAt ps k → LiveIn k t
  reached_live t z r leaf = up k k (omega arith) r (there_below ps k leaf.0 leaf.1) (λ u x. leaf_alone u leaf x) t z
