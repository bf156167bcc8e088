use Rattle.std.proofs.Common.{◌≡◌, drop, map, string_bytes}
use Rattle.std.specs.List.{list_all}
use Rattle.cyp_words.specs.Ready.{is_ready}
use Rattle.cyp_words.proofs.options.are_ready.Given as goal

abbrev pub invariant-loop-word : goal.invariant-loop-word
invariant-loop-word l = list_all is_ready (map string_bytes (drop l.word-index l.words)) ≡ list_all is_ready (map string_bytes l.words)
