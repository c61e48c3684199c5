use Rattle.std.specs.Prelude.{[], ◌∷◌}
use Rattle.one_shot_word.proofs.cells.Cells.retire_ended.Given as goal

abbrev pub ghosts-end_step : goal.ghosts-end_step
ghosts-end_step g a = record { loads = a.load.now ∷ [] }
