use Rattle.jb_shared.proofs.entering.end.Given as goal

abbrev pub ghosts-give : goal.ghosts-give
ghosts-give g a = record { remark = a.remark }
