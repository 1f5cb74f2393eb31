-- Lists of subfields as bytes that were written out by hand from the table (JAM, "SubFields"), whole and cut.
use Rattle.std.proofs.Common.{◌≡◌, ℕ, ◌+◌, ◌<◌, List, [], ◌∷◌, ◌++◌, All, Ok, Err, length, codes, refl, ap, ◌∙◌, arith, length-append, take}
use Rattle.std.proofs.lemmas.List.Elements.{All-nil, All-push}
use Rattle.jb_bytes.specs.Number.{number_at}
use Rattle.jb_bytes.specs.Subfields.{IsSubfield, one_subfield}
use Rattle.jb_bytes.specs.Whole.{HasNoWhole}
use Rattle.jb_bytes.specs.declared.subfield.Subfield.{Subfield}
use Rattle.jb_subfield.specs.Answer.{ReadsSubfields}
use Rattle.jb_subfield.specs.declared.error.SubfieldError.TheVariants.{Cut}

-- bytes that are fewer than a head and the data of which it tells begin with no subfield
no_whole : (bytes : List ℕ) → length bytes < 8 + number_at 4 4 bytes → HasNoWhole bytes
no_whole bytes short field rest fits same =
    let told : length field.bytes ≡ number_at 4 4 (one_subfield field ++ rest) = omega (arith, fits.size) in
    let size : number_at 4 4 bytes ≡ number_at 4 4 (one_subfield field ++ rest) = ap (number_at 4 4) same in
    let long : length bytes ≡ length (one_subfield field) + length rest = ap length same ∙ length-append (one_subfield field) rest in
    omega arith

-- a sender, and a kludge with a HiID and no data
abbrev sender : Subfield
sender = record { id = 2; hi = 0; bytes = codes "Test" }

abbrev kludge : Subfield
kludge = record { id = 2000; hi = 0x1234; bytes = [] }

abbrev subject : Subfield
subject = record { id = 6; hi = 0; bytes = codes "abc" }

abbrev spelled : List ℕ
spelled = 0x02 ∷ 0x00 ∷ 0x00 ∷ 0x00 ∷ 0x04 ∷ 0x00 ∷ 0x00 ∷ 0x00 ∷ 0x54 ∷ 0x65 ∷ 0x73 ∷ 0x74
    ∷ 0xD0 ∷ 0x07 ∷ 0x34 ∷ 0x12 ∷ 0x00 ∷ 0x00 ∷ 0x00 ∷ 0x00
    ∷ 0x06 ∷ 0x00 ∷ 0x00 ∷ 0x00 ∷ 0x03 ∷ 0x00 ∷ 0x00 ∷ 0x00 ∷ 0x61 ∷ 0x62 ∷ 0x63 ∷ []

-- each of them fits
sender_fits : All IsSubfield (sender ∷ [])
sender_fits = All-push IsSubfield [] sender (All-nil IsSubfield) (record { id = omega arith; hi = omega arith; size = omega arith })

two_fit : All IsSubfield (sender ∷ kludge ∷ [])
two_fit = All-push IsSubfield (sender ∷ []) kludge sender_fits (record { id = omega arith; hi = omega arith; size = omega arith })

three_fit : All IsSubfield (sender ∷ kludge ∷ subject ∷ [])
three_fit = All-push IsSubfield (sender ∷ kludge ∷ []) subject two_fit (record { id = omega arith; hi = omega arith; size = omega arith })

-- no bytes are no subfields
read_none : ReadsSubfields [] (Ok [])
read_none = record { each = All-nil IsSubfield; spelled = refl }

-- all three are read
read_three : ReadsSubfields spelled (Ok (sender ∷ kludge ∷ subject ∷ []))
read_three = record { each = three_fit; spelled = refl }

-- the first is cut in its head, and in its data
cut_at_first_head : ReadsSubfields (take 7 spelled) (Err (Cut 0))
cut_at_first_head = record { fields = []; before = record { each = All-nil IsSubfield; spelled = refl }; remain = omega arith; cut = no_whole (take 7 spelled) (omega arith) }

cut_in_first_data : ReadsSubfields (take 11 spelled) (Err (Cut 0))
cut_in_first_data = record { fields = []; before = record { each = All-nil IsSubfield; spelled = refl }; remain = omega arith; cut = no_whole (take 11 spelled) (omega arith) }

-- a single byte is left behind the first
cut_at_second : ReadsSubfields (take 13 spelled) (Err (Cut 12))
cut_at_second = record { fields = sender ∷ []; before = record { each = sender_fits; spelled = refl }; remain = omega arith; cut = no_whole (0xD0 ∷ []) (omega arith) }

-- the third is cut in its head, and in its data
cut_in_third_head : ReadsSubfields (take 27 spelled) (Err (Cut 20))
cut_in_third_head = record {
  fields = sender ∷ kludge ∷ [];
  before = record { each = two_fit; spelled = refl };
  remain = omega arith;
  cut = no_whole (0x06 ∷ 0x00 ∷ 0x00 ∷ 0x00 ∷ 0x03 ∷ 0x00 ∷ 0x00 ∷ []) (omega arith);
}

cut_in_third_data : ReadsSubfields (take 30 spelled) (Err (Cut 20))
cut_in_third_data = record {
  fields = sender ∷ kludge ∷ [];
  before = record { each = two_fit; spelled = refl };
  remain = omega arith;
  cut = no_whole (0x06 ∷ 0x00 ∷ 0x00 ∷ 0x00 ∷ 0x03 ∷ 0x00 ∷ 0x00 ∷ 0x00 ∷ 0x61 ∷ 0x62 ∷ []) (omega arith);
}
