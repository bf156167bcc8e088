use Rattle.std.proofs.Common.{ℕ, List, [], length, ap₂, ◌∙◌}
use Rattle.std.proofs.lemmas.List.{get_or_read}
use Rattle.cyp_sets.specs.Dealing.{shown_in}
use Rattle.cyp_sets.proofs.Deals.{class_is}
use Rattle.cyp_sets.proofs.dealing.is_shown_at.Goals as goal

pub returns : goal.returns
returns c =
    let lists = c.args.lists.now in
    c.is_shown_in.ensures
    ∙ ap₂ (λ (rs : List ℕ) (n : ℕ). shown_in rs n c.args.want) (c.as_slice.ensures ∙ get_or_read lists c.args.place c.index-lists-place.result c.requires.place c.index-lists-place.is []) (class_is c.args.place (length lists) c.requires.place c.requires.few)
