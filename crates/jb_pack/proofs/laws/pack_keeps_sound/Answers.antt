use Rattle.jb_pack.proofs.SoundLemmas.{packed_sound}
use Rattle.jb_pack.proofs.laws.pack_keeps_sound.Goals as goal

pub returns : goal.returns
returns c = packed_sound
