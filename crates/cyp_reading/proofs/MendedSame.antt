-- A tree whose blocks have right sizes is its own mended tree, and mending changes no names.
use Rattle.std.proofs.Common.{Bool, List, [], ap, arith, cond, flat_map, filter, map, max, min, false, refl, sym, true, ℕ, ◌++◌, ◌∙◌, ◌∷◌, ◌≡◌, ◌≤◌, ◌&&◌}
use Rattle.std.specs.Prelude.{nat_le}
use Rattle.std.proofs.lemmas.Bool.{and_parts, leb-true}
use Rattle.std.proofs.lemmas.Grind.{flat_map-append}
use Rattle.cyp_reading.specs.declared.chunks.Kind.TheVariants.{Blocks, Cells, Instances}
use Rattle.cyp_reading.specs.Mended.{mended, mended_body, mended_text}
use Rattle.cyp_names.specs.Bodies.{body_lits, in_kinds, is_block, is_cell, is_instance, kept_body, kept_lit, kept_parts}
use Rattle.cyp_names.specs.PredFaults.{size_fault, size_faults}
use Rattle.cyp_names.specs.Specifications.{goal_scope, universal_scope}
use Rattle.cyp_names.specs.Uses.{Use, chunk_uses, param_uses, same_name}
use Rattle.cyp_term.specs.Terms.{with_all_new, without_repeats}
use Rattle.cyp_text.specs.declared.tree.BodyTree.{BodyTree}
use Rattle.cyp_text.specs.declared.tree.ChunkTree.{ChunkTree}
use Rattle.cyp_text.specs.declared.tree.ChunkTree.TheVariants.{BlockOf, InstanceOf, NamedCell, TermCell}
use Rattle.cyp_text.specs.declared.tree.PredTree.{PredTree}
use Rattle.cyp_text.specs.declared.tree.TextTree.{TextTree}
use Rattle.cyp_names.proofs.NoFaults.{none_both, test_true}
use Rattle.cyp_reading.proofs.HeapsRead.{kind_mended}

size_same : (n : ℕ) → 1 ≤ n → n ≤ 8 → max 1 (min n 8) ≡ n
size_same n l m = omega (arith, l, m)

chunk_same : (c : ChunkTree) → size_fault c ≡ [] → mended c ≡ c
chunk_same (NamedCell i t) e = refl
chunk_same (TermCell a t) e = refl
chunk_same (InstanceOf i xs) e = refl
chunk_same (BlockOf a p n) e =
    let both = and_parts (nat_le 1 n) (nat_le n 8) (test_true (nat_le 1 n && nat_le n 8) _ [] e) in
    ap (λ (m : ℕ). BlockOf a p m) (size_same n (leb-true 1 n both.0) (leb-true n 8 both.1))

chunks_same : (cs : List ChunkTree) → flat_map size_fault cs ≡ [] → map mended cs ≡ cs
chunks_same [] e = refl
chunks_same (c ∷ cs) e =
    let parts = none_both (size_fault c) (flat_map size_fault cs) e in
    λ i. chunk_same c parts.0 i ∷ chunks_same cs parts.1 i

-- a body without wrong sizes
pub body_same : (b : BodyTree) → size_faults b ≡ [] → mended_body b ≡ b
body_same b e = λ i. record { pure = b.pure; chunks = chunks_same b.chunks e i }

-- a procedure without wrong sizes
pub text_same : (t : TextTree) → size_faults t.pre ≡ [] → size_faults t.post ≡ [] → mended_text t ≡ t
text_same t e f = λ i. record { preds = t.preds; name = t.name; params = t.params; pre = body_same t.pre e i; post = body_same t.post f i }

-- ---- names

uses_mended : (qs : List PredTree) (c : ChunkTree) → chunk_uses kept_parts qs (mended c) ≡ chunk_uses kept_parts qs c
uses_mended qs (NamedCell i t) = refl
uses_mended qs (TermCell a t) = refl
uses_mended qs (BlockOf a p n) = refl
uses_mended qs (InstanceOf i xs) = refl

kind_uses : (qs : List PredTree) (test : ChunkTree → Bool) → ((c : ChunkTree) → test (mended c) ≡ test c) → (cs : List ChunkTree) → flat_map (chunk_uses kept_parts qs) (filter test (map mended cs)) ≡ flat_map (chunk_uses kept_parts qs) (filter test cs)
kind_uses qs test h [] = refl
kind_uses qs test h (c ∷ cs) =
    ap (λ (b : Bool). flat_map (chunk_uses kept_parts qs) (cond b (mended c ∷ filter test (map mended cs)) (filter test (map mended cs)))) (h c) ∙ by_test (test c) (kind_uses qs test h cs)
  where
    by_test : (b : Bool) → flat_map (chunk_uses kept_parts qs) (filter test (map mended cs)) ≡ flat_map (chunk_uses kept_parts qs) (filter test cs)
        → flat_map (chunk_uses kept_parts qs) (cond b (mended c ∷ filter test (map mended cs)) (filter test (map mended cs))) ≡ flat_map (chunk_uses kept_parts qs) (cond b (c ∷ filter test cs) (filter test cs))
    by_test true e = λ i. uses_mended qs c i ++ e i
    by_test false e = e

body_names : (qs : List PredTree) (b : BodyTree) → kept_body qs (mended_body b) ≡ kept_body qs b
body_names qs b = ap (λ (us : List Use). flat_map (kept_lit false) (body_lits b) ++ us) three
  where
    apart : (xs ys zs : List ChunkTree) → flat_map (chunk_uses kept_parts qs) (xs ++ ys ++ zs) ≡ flat_map (chunk_uses kept_parts qs) xs ++ flat_map (chunk_uses kept_parts qs) ys ++ flat_map (chunk_uses kept_parts qs) zs
    apart xs ys zs = flat_map-append (chunk_uses kept_parts qs) (xs ++ ys) zs ∙ ap (λ (us : List Use). us ++ flat_map (chunk_uses kept_parts qs) zs) (flat_map-append (chunk_uses kept_parts qs) xs ys)

    three : flat_map (chunk_uses kept_parts qs) (in_kinds (map mended b.chunks)) ≡ flat_map (chunk_uses kept_parts qs) (in_kinds b.chunks)
    three =
        apart (filter is_instance (map mended b.chunks)) (filter is_block (map mended b.chunks)) (filter is_cell (map mended b.chunks))
        ∙ (λ i. kind_uses qs is_instance (kind_mended Instances) b.chunks i ++ kind_uses qs is_block (kind_mended Blocks) b.chunks i ++ kind_uses qs is_cell (kind_mended Cells) b.chunks i)
        ∙ sym (apart (filter is_instance b.chunks) (filter is_block b.chunks) (filter is_cell b.chunks))

-- the scopes of the procedure stay
pub universal_names : (t : TextTree) → universal_scope (mended_text t) ≡ universal_scope t
universal_names t = ap (λ (us : List Use). without_repeats same_name (param_uses t.params ++ us)) (body_names t.preds t.pre)

pub goal_names : (t : TextTree) → goal_scope (mended_text t) ≡ goal_scope t
goal_names t = λ i. with_all_new same_name (universal_names t i) (body_names t.preds t.post i)
