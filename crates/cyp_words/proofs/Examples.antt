-- Command lines and what they are.
use Rattle.std.proofs.Common.{refl, ◌≡◌, [], ◌∷◌, None, Some, codes, true, false}
use Rattle.cyp_words.specs.Words.{Gen, RunOn, Synth, command_of, one_worker_command_of}

plain : command_of (codes "synth" ∷ []) ≡ Some (Synth (record { budget = 20000; unfoldings = 2; workers = 1; stats = false }))
plain = refl

workers : command_of (codes "synth" ∷ codes "--workers" ∷ codes "32" ∷ []) ≡ Some (Synth (record { budget = 20000; unfoldings = 2; workers = 32; stats = false }))
workers = refl

in_one_word : command_of (codes "synth" ∷ codes "--stats" ∷ codes "--budget=003" ∷ []) ≡ Some (Synth (record { budget = 3; unfoldings = 2; workers = 1; stats = true }))
in_one_word = refl

no_budget : command_of (codes "synth" ∷ codes "--budget" ∷ codes "0" ∷ []) ≡ None
no_budget = refl

unbounded : command_of (codes "synth" ∷ codes "--budget" ∷ codes "100001" ∷ []) ≡ None
unbounded = refl

missing : command_of (codes "synth" ∷ codes "--budget" ∷ []) ≡ None
missing = refl

empty_number : command_of (codes "synth" ∷ codes "--budget=" ∷ []) ≡ None
empty_number = refl

eight_digits : command_of (codes "synth" ∷ codes "--unfold=00000001" ∷ []) ≡ None
eight_digits = refl

dashes : command_of (codes "synth" ∷ codes "--" ∷ []) ≡ None
dashes = refl

none : command_of [] ≡ None
none = refl

twice : command_of (codes "synth" ∷ codes "--stats" ∷ codes "--stats" ∷ []) ≡ None
twice = refl

twice_in_two_forms : command_of (codes "synth" ∷ codes "--budget=3" ∷ codes "--budget" ∷ codes "3" ∷ []) ≡ None
twice_in_two_forms = refl

flag_with_value : command_of (codes "synth" ∷ codes "--stats=" ∷ []) ≡ None
flag_with_value = refl

shortened : command_of (codes "synth" ∷ codes "--stat" ∷ []) ≡ None
shortened = refl

fuel : command_of (codes "run" ∷ codes "--fuel" ∷ codes "7" ∷ []) ≡ Some (RunOn 7)
fuel = refl

no_flag_of_run : command_of (codes "run" ∷ codes "--stats" ∷ []) ≡ None
no_flag_of_run = refl

chain : command_of (codes "gen" ∷ codes "0000003" ∷ []) ≡ Some (Gen 3)
chain = refl

long_chain : command_of (codes "gen" ∷ codes "17" ∷ []) ≡ None
long_chain = refl

no_chain : command_of (codes "gen" ∷ []) ≡ None
no_chain = refl

one_worker : one_worker_command_of (codes "synth" ∷ codes "--workers" ∷ codes "1" ∷ []) ≡ None
one_worker = refl

one_worker_with_budget : one_worker_command_of (codes "synth" ∷ codes "--budget=3" ∷ []) ≡ Some (Synth (record { budget = 3; unfoldings = 2; workers = 1; stats = false }))
one_worker_with_budget = refl
