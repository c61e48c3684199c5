-- What a word says of the number asked.
use Rattle.std.specs.Prelude.{ℕ, ◌/◌, ◌%◌, ◌==◌, if◌then◌else◌}
use Rattle.one_shot_word.specs.declared.answers.State.{State}
use Rattle.one_shot_word.specs.declared.answers.State.TheVariants.{Unmade, Running, Waiting, Ended, Halted}
use Rattle.one_shot_word.specs.declared.answers.State.TheVariants.{Reused as Passed}
use Rattle.one_shot_word.specs.declared.answers.Place.{Place}
use Rattle.one_shot_word.specs.declared.answers.Place.TheVariants.{Ready}
use Rattle.one_shot_word.specs.declared.answers.Place.TheVariants.{Ended as AtEnd, Halted as AtHalt}
use Rattle.cell_rules.specs.Words.{READY, ENDED, HALTED}
use Rattle.one_shot_word.specs.declared.answers.Found.{Found}
use Rattle.one_shot_word.specs.declared.answers.Found.TheVariants.{Claimed, Parked, Done, Reused}

-- the state of a task that is not READY, by what its word has beside the number
abbrev pub state_of : ℕ → State
state_of kind = if kind == 2 then Running else (if kind == 3 then Waiting else (if kind == 4 then Ended else Halted))

-- a task word that is not READY of the number
abbrev pub state_at : ℕ → ℕ → State
state_at m w = if w == 0 then Unmade else (if w / 8 == m then state_of (w % 8) else Passed (record { 0 = w / 8 }))

-- the word of a load that goes home
abbrev pub stored_as : Place → ℕ → ℕ
stored_as Ready m = READY m
stored_as AtEnd m = ENDED m
stored_as AtHalt m = HALTED m

-- a claim word that is not FREE of the number
abbrev pub claim_found : ℕ → Found
claim_found w = if w % 2 == 1 then Claimed (record { 0 = w / 2 }) else Reused (record { 0 = w / 2 })

-- a channel word that is neither EMPTY nor FULL of the number
abbrev pub chan_found : ℕ → ℕ → Found
chan_found m w = if w % 4 == 3 then Parked (record { 0 = w / 4 }) else (if w / 4 == m then Done else Reused (record { 0 = w / 4 }))
