-- Literals on addresses are added in two parts, and repeats are dropped behind them.
use Rattle.std.proofs.Common.{◌≡◌, ◌∙◌, ◌&&◌, ◌++◌, [], Bool, List, None, Some, int_le, map, not, pos, ap}
use Rattle.std.specs.List.{filter, flat_map}
use Rattle.std.proofs.lemmas.List.{append_assoc}
use Rattle.cyp_goal.specs.Tidying.{above_zero, address_lits, is_plainly_true, least_of, offsets_at, tidy_lits}
use Rattle.cyp_term.proofs.Repeats.{with_all_new_append}
use Rattle.cyp_term.specs.Terms.{base_eq, lit_eq, term_vars, var_eq, with_all_new, without_repeats}
use Rattle.cyp_term.specs.declared.lit.Lit.{Lit}
use Rattle.cyp_term.specs.declared.term.Term.{Term}
use Rattle.cyp_term.specs.declared.term.Var.{Var}

-- that the least address with this base is positive
abbrev pub base_lit : List Term → Var → Lit
base_lit ts v = above_zero (record { base = Some v; offset = least_of (offsets_at v ts) })

-- a plain number that isn't positive
abbrev pub is_low : Term → Bool
is_low t = base_eq t.base None && int_le t.offset (pos 0)

pub both_added : (start mid new : List Lit) (bs : List Var) (ts us ws xs : List Term) → bs ≡ without_repeats var_eq (flat_map term_vars us) → us ≡ ts → ws ≡ ts → xs ≡ ts
    → mid ≡ start ++ map (base_lit ws) bs → new ≡ mid ++ map above_zero (filter is_low xs) → new ≡ start ++ address_lits ts
both_added start mid new bs ts us ws xs e f g h k m =
    let vs = e ∙ ap (λ zs. without_repeats var_eq (flat_map term_vars zs)) f in
    m ∙ (λ i. k i ++ map above_zero (filter is_low (h i))) ∙ (λ i. (start ++ map (base_lit (g i)) (vs i)) ++ map above_zero (filter is_low ts))
    ∙ append_assoc start (map (base_lit ts) (without_repeats var_eq (flat_map term_vars ts))) (map above_zero (filter is_low ts))

-- repeats are dropped once, where the literals on addresses stand behind those that tell something
pub tidied : (ls more : List Lit) → without_repeats lit_eq (filter (λ l. not (is_plainly_true l)) ls ++ more) ≡ with_all_new lit_eq (tidy_lits ls) more
tidied ls more = with_all_new_append lit_eq [] (filter (λ l. not (is_plainly_true l)) ls) more
