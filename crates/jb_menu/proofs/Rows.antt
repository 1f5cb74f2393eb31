-- Lines at a command prompt, computed.
use Rattle.std.proofs.Common.{◌≡◌, refl}
use Rattle.std.specs.Prelude.{codes}
use Rattle.jb_menu.specs.CommandLines.{command_of}
use Rattle.jb_menu.specs.declared.command_line.CommandLetter.TheVariants.{K, N, Q}
use Rattle.jb_menu.specs.declared.command_line.CommandLine.TheVariants.{Empty, Letter, LetterNumber, Number, Unknown}

spaces_alone : command_of (codes "  ") ≡ Empty
unfolding command_of
spaces_alone = refl

a_small_letter : command_of (codes "q") ≡ Letter Q
unfolding command_of
a_small_letter = refl

a_letter_between_spaces : command_of (codes " N ") ≡ Letter N
unfolding command_of
a_letter_between_spaces = refl

a_letter_and_a_number : command_of (codes "k  007") ≡ LetterNumber K 7
unfolding command_of
a_letter_and_a_number = refl

no_space_between : command_of (codes "K7") ≡ Unknown
unfolding command_of
no_space_between = refl

two_numbers : command_of (codes "K 7 8") ≡ Unknown
unfolding command_of
two_numbers = refl

another_letter : command_of (codes "C") ≡ Unknown
unfolding command_of
another_letter = refl

the_greatest_number : command_of (codes "4294967295") ≡ Number 4294967295
unfolding command_of
the_greatest_number = refl

a_greater_number : command_of (codes "4294967296") ≡ Unknown
unfolding command_of
a_greater_number = refl

eleven_digits : command_of (codes "00000000001") ≡ Unknown
unfolding command_of
eleven_digits = refl
