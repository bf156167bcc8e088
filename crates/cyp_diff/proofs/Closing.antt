-- Closed distances stay closed when a bound is added.
use Rattle.std.proofs.Common.{◌≡◌, ◌⊎◌, inl, inr, ℕ, ◌*◌, ◌^◌, ◌<◌, ◌≤◌, ℤ, pos, neg_ℤ, ◌+ℤ◌, ◌≤ℤ◌, ◌<ℤ◌, List, [], ◌∷◌, ◌++◌, refl, sym, ap, ◌∙◌, subst, arith}
use Rattle.std.proofs.lemmas.Int.{ints}
use Rattle.cyp_diff.specs.Distances.{none, IsSmall}
use Rattle.cyp_diff.specs.Closed.{Edge, total, Leads, IsEdge, AreEdges, Way, IsClosed}
use Rattle.cyp_diff.proofs.Heights.{Reached, here, next, turned, height}

-- no way is shorter than the distance
way_long : (n : ℕ) (d : ℕ → ℕ → ℤ) (es : List Edge) (a b : ℕ) → IsClosed n d → a < n → b < n → Leads a es b → AreEdges n d es → (d a b <ℤ none) × (d a b ≤ℤ total es)
way_long n d [] a b h la lb e _ =
    let z : d a b ≡ pos 0 = ap (d a) (sym e) ∙ h.same a la in
    (omega (arith, ints), omega (arith, ints))
way_long n d (e ∷ es) a b h la lb (s, ls) (x, xs) =
    let fin : d a e.finish <ℤ none = subst (λ p. d p e.finish <ℤ none) s x.bounded in
    let kept : d a e.finish ≤ℤ e.weight = subst (λ p. d p e.finish ≤ℤ e.weight) s x.kept in
    let rest : (d e.finish b <ℤ none) × (d e.finish b ≤ℤ total es) = way_long n d es e.finish b h x.finishes lb ls xs in
    let both : (d a b <ℤ none) × (d a b ≤ℤ (d a e.finish +ℤ d e.finish b)) = h.through a e.finish b la x.finishes lb fin rest.0 in
    (both.0, let r : d e.finish b ≤ℤ total es = rest.1 in let t : d a b ≤ℤ (d a e.finish +ℤ d e.finish b) = both.1 in omega (arith, ints))

-- along a shortest way distances change in steps of at most 2^34
walk_on : (n : ℕ) (d : ℕ → ℕ → ℤ) (es : List Edge) (a p b : ℕ) → IsClosed n d → a < n → p < n → b < n → Reached n (d a) a p → d a p <ℤ none → Leads p es b → AreEdges n d es → (d a p +ℤ total es) ≡ d a b → Reached n (d a) a b
walk_on n d [] a p b h la lp lb r fin e _ is = subst (λ q. Reached n (d a) a q) e r
walk_on n d (e ∷ es) a p b h la lp lb r fin (s, ls) (x, xs) is =
    let q = e.finish in
    let step : d p q <ℤ none = subst (λ o. d o q <ℤ none) s x.bounded in
    let kept : d p q ≤ℤ e.weight = subst (λ o. d o q ≤ℤ e.weight) s x.kept in
    let on : (d a q <ℤ none) × (d a q ≤ℤ (d a p +ℤ d p q)) = h.through a p q la lp x.finishes fin step in
    let rest : (d q b <ℤ none) × (d q b ≤ℤ total es) = way_long n d es q b h x.finishes lb ls xs in
    let whole : (d a b <ℤ none) × (d a b ≤ℤ (d a q +ℤ d q b)) = h.through a q b la x.finishes lb on.0 rest.0 in
    let on1 : d a q ≤ℤ (d a p +ℤ d p q) = on.1 in
    let rest1 : d q b ≤ℤ total es = rest.1 in
    let whole1 : d a b ≤ℤ (d a q +ℤ d q b) = whole.1 in
    let least = x.small.least in
    let most = x.small.most in
    let is' : (d a p +ℤ (e.weight +ℤ total es)) ≡ d a b = is in
    let value : d a q ≡ (d a p +ℤ e.weight) = omega (arith, ints) in
    walk_on n d es a q b h la x.finishes lb (next p q r x.finishes (omega (arith, ints)) (omega (arith, ints))) on.0 ls xs (omega (arith, ints))

reached : (n : ℕ) (d : ℕ → ℕ → ℤ) (a b : ℕ) → IsClosed n d → a < n → b < n → d a b <ℤ none → Reached n (d a) a b
reached n d a b h la lb fin =
    let w : Way n d a b (d a b) = h.way a b la lb fin in
    let z : d a a ≡ pos 0 = h.same a la in
    walk_on n d w.edges a a b h la la lb here (omega (arith, ints)) w.leads w.are (let e : total w.edges ≡ d a b = w.weighs in omega (arith, ints))

-- distances between 33 places are at most 33 * 2^34 in size
pub distance_most : (n : ℕ) (d : ℕ → ℕ → ℤ) (a b : ℕ) → IsClosed n d → n ≤ 33 → a < n → b < n → d a b <ℤ none → d a b ≤ℤ pos (33 * 2 ^ 34)
distance_most n d a b h few la lb fin =
    let z : d a a ≡ pos 0 = h.same a la in
    height n (d a) a b few la (omega (arith, ints)) (reached n d a b h la lb fin)

pub distance_least : (n : ℕ) (d : ℕ → ℕ → ℤ) (a b : ℕ) → IsClosed n d → n ≤ 33 → a < n → b < n → d a b <ℤ none → neg_ℤ (d a b) ≤ℤ pos (33 * 2 ^ 34)
distance_least n d a b h few la lb fin =
    let z : d a a ≡ pos 0 = h.same a la in
    height n (λ x. neg_ℤ (d a x)) a b few la (omega (arith, ints)) (turned b (reached n d a b h la lb fin))

-- the distances d' are d with the ways through a new bound c from i to j
pub record Comes (d d' : ℕ → ℕ → ℤ) (i j : ℕ) (c : ℤ) : Type 0 where
  pub lower : (a b : ℕ) → d' a b ≤ℤ d a b
  pub via : (a b : ℕ) → d a i <ℤ none → d j b <ℤ none → d' a b ≤ℤ ((d a i +ℤ c) +ℤ d j b)
  pub from : (a b : ℕ) → (d' a b ≡ d a b) ⊎ ((d a i <ℤ none) × (d j b <ℤ none) × (d' a b ≡ ((d a i +ℤ c) +ℤ d j b)))

-- what is known where a bound is added
pub record Adds (n : ℕ) (d d' : ℕ → ℕ → ℤ) (i j : ℕ) (c : ℤ) : Type 0 where
  pub closed : IsClosed n d
  pub few : n ≤ 33
  pub first : i < n
  pub second : j < n
  pub small : IsSmall c
  pub comes : Comes d d' i j c
  pub no_cycle : d j i <ℤ none → pos 0 ≤ℤ (d j i +ℤ c)

pub through_fin : (n : ℕ) (d d' : ℕ → ℕ → ℤ) (i j : ℕ) (c : ℤ) → Adds n d d' i j c → (a b : ℕ) → a < n → b < n → d a i <ℤ none → d j b <ℤ none → d' a b <ℤ none
through_fin n d d' i j c s a b la lb p q =
    let v : d' a b ≤ℤ ((d a i +ℤ c) +ℤ d j b) = s.comes.via a b p q in
    let x : d a i ≤ℤ pos (33 * 2 ^ 34) = distance_most n d a i s.closed s.few la s.first p in
    let y : d j b ≤ℤ pos (33 * 2 ^ 34) = distance_most n d j b s.closed s.few s.second lb q in
    let z : c ≤ℤ pos (2 ^ 34) = s.small.most in
    omega (arith, ints)

pub lower_fin : (n : ℕ) (d d' : ℕ → ℕ → ℤ) (i j : ℕ) (c : ℤ) → Adds n d d' i j c → (a b : ℕ) → d a b <ℤ none → d' a b <ℤ none
lower_fin n d d' i j c s a b p = let l : d' a b ≤ℤ d a b = s.comes.lower a b in omega (arith, ints)

same' : (n : ℕ) (d d' : ℕ → ℕ → ℤ) (i j : ℕ) (c : ℤ) → Adds n d d' i j c → (a : ℕ) → a < n → d' a a ≡ pos 0
same' n d d' i j c s a la =
    let z : d a a ≡ pos 0 = s.closed.same a la in
    let l : d' a a ≤ℤ d a a = s.comes.lower a a in
    elim (s.comes.from a a) [
      | inl e ↦ e ∙ z
      | inr e ↦
          let t : (d j i <ℤ none) × (d j i ≤ℤ (d j a +ℤ d a i)) = s.closed.through j a i s.second la s.first e.1 e.0 in
          let u : d j i ≤ℤ (d j a +ℤ d a i) = t.1 in
          let w : pos 0 ≤ℤ (d j i +ℤ c) = s.no_cycle t.0 in
          let v : d' a a ≡ ((d a i +ℤ c) +ℤ d j a) = e.2 in
          omega (arith, ints)
    ]

-- the goal of `through`, at the new distances
abbrev Through : (ℕ → ℕ → ℤ) → ℕ → ℕ → ℕ → Type 0
Through d a k b = (d a b <ℤ none) × (d a b ≤ℤ (d a k +ℤ d k b))

through' : (n : ℕ) (d d' : ℕ → ℕ → ℤ) (i j : ℕ) (c : ℤ) → Adds n d d' i j c → (a k b : ℕ) → a < n → k < n → b < n → d' a k <ℤ none → d' k b <ℤ none → Through d' a k b
through' n d d' i j c s a k b la lk lb p q = by (s.comes.from a k) (s.comes.from k b) where
  by : (d' a k ≡ d a k) ⊎ ((d a i <ℤ none) × (d j k <ℤ none) × (d' a k ≡ ((d a i +ℤ c) +ℤ d j k))) → (d' k b ≡ d k b) ⊎ ((d k i <ℤ none) × (d j b <ℤ none) × (d' k b ≡ ((d k i +ℤ c) +ℤ d j b))) → Through d' a k b
  by (inl e) (inl f) =
      let t = s.closed.through a k b la lk lb (subst (λ z. z <ℤ none) e p) (subst (λ z. z <ℤ none) f q) in
      let u : d a b ≤ℤ (d a k +ℤ d k b) = t.1 in
      let l : d' a b ≤ℤ d a b = s.comes.lower a b in
      (lower_fin n d d' i j c s a b t.0, omega (arith, ints))
  by (inl e) (inr (f, g, h)) =
      let t = s.closed.through a k i la lk s.first (subst (λ z. z <ℤ none) e p) f in
      let u : d a i ≤ℤ (d a k +ℤ d k i) = t.1 in
      let v : d' a b ≤ℤ ((d a i +ℤ c) +ℤ d j b) = s.comes.via a b t.0 g in
      (through_fin n d d' i j c s a b la lb t.0 g, omega (arith, ints))
  by (inr (e, f, g)) (inl h) =
      let t = s.closed.through j k b s.second lk lb f (subst (λ z. z <ℤ none) h q) in
      let u : d j b ≤ℤ (d j k +ℤ d k b) = t.1 in
      let v : d' a b ≤ℤ ((d a i +ℤ c) +ℤ d j b) = s.comes.via a b e t.0 in
      (through_fin n d d' i j c s a b la lb e t.0, omega (arith, ints))
  by (inr (e, f, g)) (inr (h, r, o)) =
      let t = s.closed.through j k i s.second lk s.first f h in
      let u : d j i ≤ℤ (d j k +ℤ d k i) = t.1 in
      let w : pos 0 ≤ℤ (d j i +ℤ c) = s.no_cycle t.0 in
      let v : d' a b ≤ℤ ((d a i +ℤ c) +ℤ d j b) = s.comes.via a b e r in
      (through_fin n d d' i j c s a b la lb e r, omega (arith, ints))

edges' : (n : ℕ) (d d' : ℕ → ℕ → ℤ) (i j : ℕ) (c : ℤ) → Adds n d d' i j c → (es : List Edge) → AreEdges n d es → AreEdges n d' es
edges' n d d' i j c s [] h = tt
edges' n d d' i j c s (e ∷ es) (x, xs) = (
  let l : d' e.start e.finish ≤ℤ d e.start e.finish = s.comes.lower e.start e.finish in
      let k : d e.start e.finish ≤ℤ e.weight = x.kept in
      record { starts = x.starts; finishes = x.finishes; small = x.small; bounded = lower_fin n d d' i j c s e.start e.finish x.bounded; kept = omega (arith, ints) },
  edges' n d d' i j c s es xs,
)

AreEdges-join : (n : ℕ) (d : ℕ → ℕ → ℤ) (es fs : List Edge) → AreEdges n d es → AreEdges n d fs → AreEdges n d (es ++ fs)
AreEdges-join n d [] fs h k = k
AreEdges-join n d (e ∷ es) fs (x, xs) k = (x, AreEdges-join n d es fs xs k)

Leads-join : (es : List Edge) (fs : List Edge) (a b c : ℕ) → Leads a es b → Leads b fs c → Leads a (es ++ fs) c
Leads-join [] fs a b c h k = subst (λ p. Leads p fs c) (sym h) k
Leads-join (e ∷ es) fs a b c (x, xs) k = (x, Leads-join es fs e.finish b c xs k)

total-join : (es fs : List Edge) → total (es ++ fs) ≡ total es +ℤ total fs
total-join [] fs = omega (arith, ints)
total-join (e ∷ es) fs = let h : total (es ++ fs) ≡ total es +ℤ total fs = total-join es fs in let g : (e.weight +ℤ total (es ++ fs)) ≡ ((e.weight +ℤ total es) +ℤ total fs) = omega (arith, ints) in g

way' : (n : ℕ) (d d' : ℕ → ℕ → ℤ) (i j : ℕ) (c : ℤ) → Adds n d d' i j c → (a b : ℕ) → a < n → b < n → d' a b <ℤ none → Way n d' a b (d' a b)
way' n d d' i j c s a b la lb p = by (s.comes.from a b) where
  by : (d' a b ≡ d a b) ⊎ ((d a i <ℤ none) × (d j b <ℤ none) × (d' a b ≡ ((d a i +ℤ c) +ℤ d j b))) → Way n d' a b (d' a b)
  by (inl e) =
      let w : Way n d a b (d a b) = s.closed.way a b la lb (subst (λ z. z <ℤ none) e p) in
      record { edges = w.edges; leads = w.leads; are = edges' n d d' i j c s w.edges w.are; weighs = w.weighs ∙ sym e }
  by (inr (e, f, g)) =
      let w : Way n d a i (d a i) = s.closed.way a i la s.first e in
      let u : Way n d j b (d j b) = s.closed.way j b s.second lb f in
      let new : Edge = record { start = i; finish = j; weight = c } in
      let zi : d i i ≡ pos 0 = s.closed.same i s.first in
      let zj : d j j ≡ pos 0 = s.closed.same j s.second in
      let fi : d i i <ℤ none = omega (arith, ints) in
      let fj : d j j <ℤ none = omega (arith, ints) in
      let v : d' i j ≤ℤ ((d i i +ℤ c) +ℤ d j j) = s.comes.via i j fi fj in
      let is_edge : IsEdge n d' new = record { starts = s.first; finishes = s.second; small = s.small; bounded = through_fin n d d' i j c s i j s.first s.second fi fj; kept = omega (arith, ints) } in
      let tw : total w.edges ≡ d a i = w.weighs in
      let tu : total u.edges ≡ d j b = u.weighs in
      let tt' : total (w.edges ++ (new ∷ u.edges)) ≡ (total w.edges +ℤ (c +ℤ total u.edges)) = total-join w.edges (new ∷ u.edges) in
      record {
        edges = w.edges ++ (new ∷ u.edges);
        leads = Leads-join w.edges (new ∷ u.edges) a i b w.leads (refl, u.leads);
        are = AreEdges-join n d' w.edges (new ∷ u.edges) (edges' n d d' i j c s w.edges w.are) (is_edge, edges' n d d' i j c s u.edges u.are);
        weighs = omega (arith, ints);
      }

pub closed_still : (n : ℕ) (d d' : ℕ → ℕ → ℤ) (i j : ℕ) (c : ℤ) → Adds n d d' i j c → IsClosed n d'
closed_still n d d' i j c s = record {
  same = same' n d d' i j c s;
  through = through' n d d' i j c s;
  way = way' n d d' i j c s;
  most = λ a b. let l : d' a b ≤ℤ d a b = s.comes.lower a b in let m : d a b ≤ℤ none = s.closed.most a b in omega (arith, ints);
  beyond = λ a b h. elim (s.comes.from a b) [
    | inl e ↦ e ∙ s.closed.beyond a b h
    | inr e ↦ let z : d j b ≡ none = s.closed.beyond j b h in absurd (let f : d j b <ℤ none = e.1 in omega (arith, ints))
  ];
}
