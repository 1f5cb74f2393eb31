-- From the parts that were read to the area that the files hold.
use Rattle.std.proofs.Common.{◌≡◌, ℕ, ◌<◌, ◌≤◌, List, length, ap, sym, ◌∙◌, subst, arith}
use Rattle.std.specs.Prelude.{slice_index_or, AllPairs}
use Rattle.jb_disk.specs.Files.{Files}
use Rattle.jb_disk.specs.declared.file.FileId.TheVariants.{Jhr, Jlr}
use Rattle.jb_state.specs.Sound.{AreApart}
use Rattle.jb_state.specs.declared.loaded.Loaded.{Loaded}
use Rattle.jb_state.specs.declared.loaded.LoadedSlot.{LoadedSlot}
use Rattle.jb_state.specs.declared.mark.Mark.{Mark}
use Rattle.jb_record.specs.Fixed.{IsFixedHeader}
use Rattle.jb_record.specs.declared.fixed.FixedHeader.{FixedHeader}
use Rattle.jb_image.specs.declared.lengths.Lengths.{Lengths}
use Rattle.jb_image.specs.Answers.{OpensTo}
use Rattle.jb_image.specs.Lengths.{AreLengths}
use Rattle.jb_image.specs.Places.{bytes_at, fixed_in, mark_record_at}
use Rattle.jb_image.specs.Reading.{AreMarksIn, AreSlotsOf, IsCount}
use Rattle.jb_image.specs.Stands.{fixed_of, mark_record}

-- the area that was read is the one that the files hold
pub opens_to : (limit : ℕ) (files : Files) (fixed : FixedHeader) (lengths : Lengths) (count : ℕ) (slots : List LoadedSlot) (marks : List Mark) (loaded : Loaded)
    → AreLengths lengths files → IsFixedHeader (bytes_at 0 1024 (files Jhr)) → fixed ≡ fixed_in files → 1 ≤ fixed.base
    → IsCount fixed lengths limit count → length slots ≡ count → AllPairs AreApart slots → AreSlotsOf files slots → AreMarksIn (files Jlr) marks
    → fixed_of loaded ≡ fixed → loaded.slots ≡ slots → loaded.marks ≡ marks → loaded.headers_len ≡ lengths.headers → loaded.texts_len ≡ lengths.texts
    → OpensTo limit files loaded
opens_to limit files fixed lengths count slots marks loaded are header same is_based is count_is apart named marked fixed_is slots_is marks_is headers_len texts_len =
    let base_is = ap (λ (f : FixedHeader). f.base) fixed_is in
    let size : length loaded.slots ≡ count = ap length slots_is ∙ count_is in
    let marks_size = ap length marks_is in
    let marks_in = marked.size in
    record {
      loads = record {
        header = header;
        fixed = fixed_is ∙ same;
        base = omega arith;
        numbers = omega (arith, is.numbers);
        index = omega (arith, are.index, is.index);
        slots = subst (AreSlotsOf files) (sym slots_is) named;
        apart = subst (AllPairs AreApart) (sym slots_is) apart;
        lastread = omega arith;
        marks = subst (λ (l : List Mark). (k : ℕ) (d : Mark) → k < length l → mark_record (slice_index_or l k d) ≡ mark_record_at files k) (sym marks_is) marked.each;
        few_marks = omega (arith, are.lastread, is.few_marks);
        headers_len = headers_len ∙ are.headers;
        texts_len = texts_len ∙ are.texts;
      };
      few_slots = omega (arith, is.few_slots);
    }
