use Rattle.one_shot_word.proofs.cells.Cells.collect.Given as goal

abbrev pub ghosts-collect_step : goal.ghosts-collect_step
ghosts-collect_step g a = record { by = a.by }
