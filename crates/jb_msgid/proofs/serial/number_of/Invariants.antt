use Rattle.std.proofs.Common.{◌≡◌, ◌≤◌, length, take}
use Rattle.std.specs.Str.Parse.{AllDigits, digits_value}
use Rattle.jb_msgid.proofs.serial.number_of.Given as goal

abbrev pub invariant-loop-place : goal.invariant-loop-place
invariant-loop-place l = record {
  within : l.place ≤ length l.digits;
  each : AllDigits 16 (take l.place l.digits);
  value : l.number ≡ digits_value 16 (take l.place l.digits);
}
