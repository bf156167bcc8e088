-- What a part of a walk answers, as an answer of the whole.
use Rattle.std.proofs.Common.{◌≡◌, ◌∙◌, ℕ, true, List, [], ◌∷◌, ap, refl, sym}
use Rattle.std.specs.Prelude.{Err}
use Rattle.cyp_heap.specs.declared.chunk.Arg.{Arg}
use Rattle.cyp_heap.specs.declared.chunk.CellAt.{CellAt}
use Rattle.cyp_heap.specs.declared.chunk.Chunk.{Chunk}
use Rattle.cyp_heap.specs.declared.chunk.Chunk.TheVariants.{Cell, Inst}
use Rattle.cyp_heap.specs.declared.chunk.InstOf.{InstOf}
use Rattle.cyp_term.specs.declared.fail.Fail.{Fail}
use Rattle.cyp_term.specs.declared.fail.Fail.TheVariants.{Named, NoMemory}
use Rattle.cyp_term.specs.declared.term.TooWide.{TooWide}
use Rattle.cyp_term.specs.declared.term.Var.{Var}
use Rattle.cyp_unify.specs.Matches.{Content, Plain, Walk, arg_positions, card_position, positions, walk, walk_step}
use Rattle.cyp_unify.specs.Meeting.{Walks, positions_of}
use Rattle.cyp_unify.specs.Walking.{Finds, wide_walk}
use Rattle.cyp_unify.proofs.Growing.{walk_wide}
use Rattle.cyp_unify.proofs.WalkTurns.{walk_two}

-- the refusal of a part is one of the whole
pub refused_part : (part whole found : Walk) (e : Fail TooWide) → (wide_walk part ≡ true → wide_walk whole ≡ true) → Finds {A = Unit {0}} {E = TooWide} part found (Err e) → Finds {A = Unit {0}} {E = TooWide} whole found (Err e)
refused_part part whole found (Named x) f h = f h
refused_part part whole found NoMemory f h = tt

pub refused_whole : (part whole found : Walk) (e : Fail TooWide) → (wide_walk part ≡ true → wide_walk whole ≡ true) → Finds {A = Unit {0}} {E = TooWide} part found (Err e) → Walks {E = TooWide} whole (Err e)
refused_whole part whole found (Named x) f h = f h
refused_whole part whole found NoMemory f h = tt

-- ---- lists that have ended

pub no_args : (xs : List Arg) → arg_positions xs [] ≡ []
no_args [] = refl
no_args (x ∷ xs) = refl

pub no_places : (present cs : List Chunk) → positions_of present cs [] ≡ []
no_places present [] = refl
no_places present (c ∷ cs) = refl

-- ---- two chunks of a kind

module _ (exist : List Var) (w : Walk) (k : ℕ) (from to : Chunk) where
  module _ (i j : InstOf) (xs ys : List Arg) (p : from ≡ Inst i) (q : to ≡ Inst j) (e : xs ≡ i.args) (f : ys ≡ j.args) where
    pub insts_met : walk exist (walk exist w (arg_positions xs ys)) (card_position i.card j.card) ≡ walk exist w (positions from k to)
    insts_met =
        (λ t. walk exist (walk exist w (arg_positions (e t) (f t))) (card_position i.card j.card))
        ∙ sym (walk_two exist w (arg_positions i.args j.args) (card_position i.card j.card))
        ∙ sym (λ t. walk exist w (positions (p t) k (q t)))

    pub insts_wide : wide_walk (walk exist w (arg_positions xs ys)) ≡ true → wide_walk (walk exist w (positions from k to)) ≡ true
    insts_wide h = ap wide_walk (sym insts_met) ∙ walk_wide exist (walk exist w (arg_positions xs ys)) (card_position i.card j.card) h

  pub cells_wide : (b c : CellAt) → from ≡ Cell b → to ≡ Cell c → wide_walk (walk_step exist w (Plain b.at c.at)) ≡ true → wide_walk (walk exist w (positions from k to)) ≡ true
  cells_wide b c p q h = ap wide_walk (λ t. walk exist w (positions (p t) k (q t))) ∙ walk_wide exist (walk_step exist w (Plain b.at c.at)) (Content k b.content c.content ∷ []) h
