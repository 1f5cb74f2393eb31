use Rattle.jb_publish.proofs.ends.Shown.look.Given as goal

abbrev pub ghosts-enter : goal.ghosts-enter
ghosts-enter g a = record { least = a.least }
