-- What holds of each item of a list, by the items among it.
use Rattle.std.proofs.Common.{List}
use Rattle.std.specs.List.{All}
use Rattle.std.proofs.lemmas.List.Elements.{All-from_recursion, recursion_from_All}
use Rattle.cyp_term.proofs.Lists.{Among, Every-among, Every-from_among}

-- of each of these
pub all_of : {A : Type 0} (P : A → Type 0) (xs : List A) → ((x : A) → Among x xs → P x) → All P xs
all_of P xs f = All-from_recursion P xs (Every-from_among P xs f)

-- of each where another holds of each
pub all_by : {A : Type 0} (P Q : A → Type 0) (xs : List A) → ((x : A) → Among x xs → P x → Q x) → All P xs → All Q xs
all_by P Q xs f h = all_of Q xs (λ x m. f x m (Every-among P x xs (recursion_from_All P xs h) m))
