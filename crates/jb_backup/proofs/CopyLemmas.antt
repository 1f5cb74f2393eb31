-- What copied bytes make of a file.
use Rattle.std.proofs.Common.{◌≡◌, ◌≢◌, inl, inr, ℕ, zero, suc, ◌+◌, ◌-◌, ◌≤◌, ◌<◌, List, ◌∷◌, length, take, drop, sym, refl, ap, ◌∙◌, subst, arith, Option, Some, None, Ok}
use Rattle.std.specs.Prelude.{slice_index, min, max}
use Rattle.std.proofs.lemmas.List.{same_lists, places, get_or_default}
use Rattle.std.proofs.lemmas.Bool.{cases_lt}
use Rattle.std.specs.Option.{ForSome, option_map}
use Rattle.jb_disk.specs.declared.file.FileId.{FileId}
use Rattle.jb_disk.specs.declared.file.FileId.TheVariants.{Jhr, Jdt, Jdx, Jlr, Jnl, Ndt}
use Rattle.jb_disk.specs.Device.{Device, TellsAnImage, Turns, and_then}
use Rattle.jb_disk.specs.FileLaws.{with_file-here, length-overwritten}
use Rattle.jb_disk.specs.Files.{Files, InFile, IsResized, ceiling_of, overwritten, written}
use Rattle.jb_disk.specs.ImageLaws.{get-before}
use Rattle.jb_disk.specs.Images.{just_synced, with_image}
use Rattle.jb_disk.specs.Runs.{Keeps, Shows}
use Rattle.jb_disk.proofs.FileLemmas.{leaves_map}
use Rattle.jb_disk.proofs.RunLemmas.{durable, keeps-refl, keeps-then}
use Rattle.jb_backup.specs.Answers.{AnswersCopy}
use Rattle.jb_backup.specs.Copying.{IsCopyable, LeavesOthers, IsFilled, HasBytes, HasGood}
use Rattle.jb_backup.specs.Target.{IsUnsigned, IsSameFrom, IsAllButSigned, IsFront, Reaches, backed_up, capped}
use Rattle.jb_backup.proofs.AnswerLemmas.{answers_then, answers_none}
use Rattle.jb_backup.proofs.TargetLemmas.{same_bytes, shows_both, shows_nothing, some_same}

-- a place within a write
get-within : (at : ℕ) (bytes old : List ℕ) (i : ℕ) → at + length bytes ≤ length old → at ≤ i → i < at + length bytes → slice_index (overwritten at bytes old) i ≡ slice_index bytes (i - at)
unfolding overwritten
get-within at bytes old i within from to = grind (arith, places)

-- a place of a part
get-part : (at n i : ℕ) (bytes : List ℕ) → at ≤ i → i < at + n → slice_index (take n (drop at bytes)) (i - at) ≡ slice_index bytes i
get-part at n i bytes from to = grind (arith, places)

-- a place past the end
get-past : (bytes : List ℕ) (i : ℕ) → length bytes ≤ i → slice_index bytes i ≡ 0
get-past bytes i past = grind (arith, places)

-- nothing is copied yet
pub filled_none : (from : ℕ) (good before : List ℕ) → IsFilled from from good before before
filled_none from good before = record { size = refl; front = λ i low. refl; filled = λ i low high. absurd (omega arith) }

-- a part more is
pub filled_more : (from at n : ℕ) (good before now chunk : List ℕ) → from ≤ at → length chunk ≡ n → at + n ≤ length now → chunk ≡ take n (drop at good) → IsFilled from at good before now → IsFilled from (at + n) good before (overwritten at chunk now)
filled_more from at n good before now chunk low size within is was =
    let fits : at + length chunk ≤ length now = omega arith in
    record {
      size = length-overwritten at chunk now fits ∙ was.size;
      front = λ i under. get-before at chunk now fits i (omega arith) ∙ was.front i under;
      filled = λ i over under. elim (cases_lt i at) [
        | inl early ↦ get-before at chunk now fits i early ∙ was.filled i over early
        | inr late ↦ get-within at chunk now i fits late (omega arith) ∙ ap (λ (l : List ℕ). slice_index l (i - at)) is ∙ get-part at n i good late under
      ];
    }

-- as long as a file may be
take-size : (most : ℕ) (l : List ℕ) → length (take most l) ≡ min (length l) most
take-size most l = grind (arith, places)

take-at : (most i : ℕ) (l : List ℕ) → i < most → slice_index (take most l) i ≡ slice_index l i
take-at most i l low = grind (arith, places)

pub capped-size : (f : FileId) (l : List ℕ) → length (capped f l) ≡ min (length l) (ceiling_of f)
unfolding capped
capped-size f l = take-size (ceiling_of f) l

pub capped-at : (f : FileId) (i : ℕ) (l : List ℕ) → i < ceiling_of f → slice_index (capped f l) i ≡ slice_index l i
unfolding capped
capped-at f i l low = take-at (ceiling_of f) i l low

-- the headers behind their first byte
headed-size : (n : ℕ) (l : List ℕ) → length (n ∷ drop 1 l) ≡ max (length l) 1
headed-size n l = grind (arith, places)

headed-at : (n i : ℕ) (l : List ℕ) → 1 ≤ i → slice_index (n ∷ drop 1 l) i ≡ slice_index l i
headed-at n zero l low = absurd (omega arith)
headed-at n (suc i) l low = grind (arith, places)

-- the length of a backup's file
good_size : (f : FileId) (from : ℕ) (files : Files) → IsCopyable f from → from ≤ length (backed_up files f) → length (backed_up files f) ≡ max (min (length (files f)) (ceiling_of f)) from
good_size Jhr from files copyable within =
    let behind = copyable.behind refl in
    omega (arith, headed-size 74 (capped Jhr (files Jhr)), capped-size Jhr (files Jhr))
good_size Jdt from files copyable within = omega (arith, capped-size Jdt (files Jdt))
good_size Jdx from files copyable within = omega (arith, capped-size Jdx (files Jdx))
good_size Jlr from files copyable within = omega (arith, capped-size Jlr (files Jlr))
good_size Jnl from files copyable within = let base = copyable.base in absurd (omega arith)
good_size Ndt from files copyable within = let base = copyable.base in absurd (omega arith)

-- and its bytes
good_at : (f : FileId) (from : ℕ) (files : Files) → IsCopyable f from → (i : ℕ) → from ≤ i → i < max (min (length (files f)) (ceiling_of f)) from → slice_index (backed_up files f) i ≡ slice_index (files f) i
good_at Jhr from files copyable i low high =
    let behind = copyable.behind refl in
    headed-at 74 i (capped Jhr (files Jhr)) (omega arith) ∙ capped-at Jhr i (files Jhr) (omega arith)
good_at Jdt from files copyable i low high = capped-at Jdt i (files Jdt) (omega arith)
good_at Jdx from files copyable i low high = capped-at Jdx i (files Jdx) (omega arith)
good_at Jlr from files copyable i low high = capped-at Jlr i (files Jlr) (omega arith)
good_at Jnl from files copyable i low high = let base = copyable.base in absurd (omega arith)
good_at Ndt from files copyable i low high = let base = copyable.base in absurd (omega arith)

-- a file that got its length and was copied from a place on
same_after : (least from end : ℕ) (source good before mid now : List ℕ) → end ≡ length good → from ≤ length before → HasBytes least from good before → ((i : ℕ) → from ≤ i → i < end → slice_index good i ≡ slice_index source i)
    → IsResized end before mid → IsFilled from end source mid now → IsSameFrom least good now
same_after least from end source good before mid now size reaches has goods resized filled =
    let within = has.within in
    let long : length now ≡ length good = filled.size ∙ resized.size ∙ size in
    record {
      size = long;
      behind = λ i over. elim (cases_lt i from) [
        | inl under ↦ filled.front i under ∙ resized.same i (omega arith) (omega arith) ∙ has.same i over under
        | inr late ↦ elim (cases_lt i end) [
          | inl inside ↦ filled.filled i late inside ∙ sym (goods i late inside)
          | inr past ↦ get-past now i (omega (arith, long)) ∙ sym (get-past good i (omega arith))
        ]
      ];
    }

-- where the source ends, at the ceiling at the latest, and not before this place
abbrev pub end_of : FileId → ℕ → Files → ℕ
end_of f from files = max (min (length (files f)) (ceiling_of f)) from

pub filled_good : (f : FileId) (least from : ℕ) (files before mid now : Files) → IsCopyable f from → from ≤ length (before f) → HasBytes least from (backed_up files f) (before f)
    → IsResized (end_of f from files) (before f) (mid f) → IsFilled from (end_of f from files) (files f) (mid f) (now f) → IsSameFrom least (backed_up files f) (now f)
filled_good f least from files before mid now copyable reaches has resized filled =
    let size = good_size f from files copyable has.within in
    same_after least from (end_of f from files) (files f) (backed_up files f) (before f) (mid f) (now f) (sym size) reaches has (λ i low high. good_at f from files copyable i low high) resized filled

-- so it is read, and left by a crash, once it is synced
pub shows_copied : (f : FileId) (least from end : ℕ) (files : Files) (t0 t1 : Option Files) (t2 t3 : Device) → IsCopyable f from → end ≡ end_of f from files → TellsAnImage t3 → Reaches t0 f from → HasGood least from f files t0
    → Turns (InFile f (IsResized end)) t0 t1 → Turns (λ before now. IsFilled from end (files f) (before f) (now f)) t1 t2.contents → t3.contents ≡ t2.contents
    → ForSome t2.contents (λ held. t3.moments ≡ and_then (with_image f (λ _. just_synced (held f))) t2.moments) → Shows (λ held. IsSameFrom least (backed_up files f) (held f)) t3
shows_copied f least from end files t0 t1 t2 t3 copyable is tells reaches has resized filled kept done = by_contents t0 t1 t2.contents refl reaches has resized filled
  where
    by_contents : (o0 o1 o2 : Option Files) → t2.contents ≡ o2 → Reaches o0 f from → HasGood least from f files o0 → Turns (InFile f (IsResized end)) o0 o1 → Turns (λ before now. IsFilled from end (files f) (before f) (now f)) o1 o2
        → Shows (λ held. IsSameFrom least (backed_up files f) (held f)) t3
    by_contents None None None none r h s w = shows_nothing _ t3 tells (kept ∙ none)
    by_contents None None (Some now) some r h s w = absurd w
    by_contents None (Some mid) o2 some r h s w = absurd s
    by_contents (Some before) None o2 some r h s w = absurd s
    by_contents (Some before) (Some mid) None some r h s w = absurd w
    by_contents (Some before) (Some mid) (Some now) some r h s w =
        let same = filled_good f least from files before mid now copyable (r before refl) (h before refl) (subst (λ (n : ℕ). IsResized n (before f) (mid f)) is s.here) (subst (λ (n : ℕ). IsFilled from n (files f) (mid f) (now f)) is w) in
        record {
          read = λ held there. let e : now ≡ held = some_same (sym (kept ∙ some) ∙ there) in subst (λ (g : Files). IsSameFrom least (backed_up files f) (g f)) e same;
          left = leaves_map (λ left. left f ≡ now f) (λ left. IsSameFrom least (backed_up files f) (left f)) t3.moments (λ left e. subst (IsSameFrom least (backed_up files f)) (sym e) same) (durable f now t2 t3 some done);
        }

-- a copying that has come so far
pub record Filling (s0 s1 t0 t1 : Device) (f : FileId) (from at end : ℕ) : Type 0 where
  pub low : from ≤ at
  pub high : at ≤ end
  pub told : ForSome s0.contents (λ files. Turns (λ before now. IsFilled from at (files f) (before f) (now f)) t0.contents t1.contents)
  pub within : Reaches t1.contents f end
  pub unsigned : Keeps IsUnsigned t0 t1
  pub others : LeavesOthers f t0 t1
  pub answer : AnswersCopy s0 s1 t0 t1 (Ok (tt {0}))

turns_refl : (P : Files → Files → Type 0) (o : Option Files) → ((files : Files) → P files files) → Turns P o o
turns_refl P None all = tt
turns_refl P (Some files) all = all files

-- it begins
pub filling_none : (s0 t0 : Device) (f : FileId) (from end : ℕ) → from ≤ end → Reaches t0.contents f end → Filling s0 s0 t0 t0 f from from end
filling_none s0 t0 f from end order within = record {
  low = omega arith;
  high = order;
  told = λ files there. turns_refl _ t0.contents (λ held. filled_none from (files f) (held f));
  within = within;
  unsigned = keeps-refl IsUnsigned t0;
  others = λ other ne least good. keeps-refl _ t0;
  answer = answers_none s0 t0 (tt {0});
}

-- a part of a file, where the disk tells
told_part : (f : FileId) (from at n : ℕ) (good : Files) (o0 o1 o2 : Option Files) (chunk : List ℕ) → from ≤ at → length chunk ≡ n → Reaches o1 f (at + n) → chunk ≡ take n (drop at (good f)) → o2 ≡ option_map (written f at chunk) o1
    → Turns (λ before now. IsFilled from at (good f) (before f) (now f)) o0 o1 → Turns (λ before now. IsFilled from (at + n) (good f) (before f) (now f)) o0 o2
told_part f from at n good None None o2 chunk low size within is told was = subst (Turns (λ before now. IsFilled from (at + n) (good f) (before f) (now f)) None) (sym told) tt
told_part f from at n good None (Some now) o2 chunk low size within is told was = absurd was
told_part f from at n good (Some before) None o2 chunk low size within is told was = absurd was
told_part f from at n good (Some before) (Some now) o2 chunk low size within is told was =
    subst (Turns (λ before now. IsFilled from (at + n) (good f) (before f) (now f)) (Some before)) (sym told)
    (subst (IsFilled from (at + n) (good f) (before f)) (sym (with_file-here f (overwritten at chunk (now f)) now)) (filled_more from at n (good f) (before f) (now f) chunk low size (within now refl) is was))

-- a write within a file leaves its length
pub reaches_written : (f : FileId) (at end n : ℕ) (chunk : List ℕ) (o1 o2 : Option Files) → length chunk ≡ n → at + n ≤ end → Reaches o1 f end → o2 ≡ option_map (written f at chunk) o1 → Reaches o2 f end
reaches_written f at end n chunk None o2 size low within told = λ files there. absurd (nothing files (sym told ∙ there))
  where
    nothing : (files : Files) → None ≡ Some files → ⊥
    nothing files e = cc e
reaches_written f at end n chunk (Some now) o2 size low within told = λ files there.
    let is : written f at chunk now ≡ files = some_same (sym told ∙ there) in
    let long = within now refl in
    let same = length-overwritten at chunk (now f) (omega arith) in
    let here = ap length (with_file-here f (overwritten at chunk (now f)) now) in
    subst (λ (g : Files). end ≤ length (g f)) is (omega (arith, long, same, here))

-- a shorter reach
pub reaches_less : (f : FileId) (low high : ℕ) (o : Option Files) → low ≤ high → Reaches o f high → Reaches o f low
reaches_less f low high o less within = λ files there. let long = within files there in omega arith

-- it goes on
pub filling_more : (s0 s1 s2 t0 t1 t2 : Device) (f : FileId) (from at n end : ℕ) (chunk : List ℕ) → at + n ≤ end → length chunk ≡ n → Filling s0 s1 t0 t1 f from at end
    → ForSome s1.contents (λ files. chunk ≡ take n (drop at (files f))) → t2.contents ≡ option_map (written f at chunk) t1.contents → Keeps IsUnsigned t1 t2 → LeavesOthers f t1 t2 → AnswersCopy s1 s2 t1 t2 (Ok (tt {0})) → Filling s0 s2 t0 t2 f from (at + n) end
filling_more s0 s1 s2 t0 t1 t2 f from at n end chunk fits size was found told unsigned others answer =
    let low = was.low in
    record {
      low = omega arith;
      high = fits;
      told = λ files there. told_part f from at n files t0.contents t1.contents t2.contents chunk low size (reaches_less f (at + n) end t1.contents fits was.within) (found files (was.answer.reads.contents ∙ there)) told (was.told files there);
      within = reaches_written f at end n chunk t1.contents t2.contents size fits was.within told;
      unsigned = keeps-then IsUnsigned t0 t1 t2 was.unsigned unsigned;
      others = λ other ne least good. keeps-then _ t0 t1 t2 (was.others other ne least good) (others other ne least good);
      answer = answers_then s0 s1 s2 t0 t1 t2 (tt {0}) (Ok (tt {0})) was.answer answer;
    }

-- a file of its new length reaches to its end
pub reaches_resized : (f : FileId) (len : ℕ) (old new : Option Files) → Turns (InFile f (IsResized len)) old new → Reaches new f len
reaches_resized f len None None turns = λ files there. absurd (cc there)
reaches_resized f len (Some before) (Some after) turns = λ files there. let same : after ≡ files = some_same there in subst (λ (g : Files). len ≤ length (g f)) same (let size = turns.here.size in omega arith)
reaches_resized f len None (Some after) turns = absurd turns
reaches_resized f len (Some before) None turns = absurd turns

-- the front of the texts, place by place
front_bytes : (copied : ℕ) (source target : List ℕ) → IsFront copied source target → (i : ℕ) → i < copied → slice_index target i ≡ slice_index source i
front_bytes copied source target front i low = sym (take-at copied i target low) ∙ ap (λ (l : List ℕ). slice_index l i) front.same ∙ take-at copied i source low

-- it is a front of the backup's texts
pub front_good : (copied : ℕ) (files held : Files) → copied ≤ ceiling_of Jdt → IsFront copied (files Jdt) (held Jdt) → HasBytes 0 copied (backed_up files Jdt) (held Jdt)
front_good copied files held low front =
    let within = front.within in
    record {
      within = omega (arith, capped-size Jdt (files Jdt));
      same = λ i from under. front_bytes copied (files Jdt) (held Jdt) front i under ∙ sym (capped-at Jdt i (files Jdt) (omega arith));
    }

-- the front is longer once a part is copied
pub front_more : (copied n : ℕ) (source before mid now : List ℕ) → copied + n ≤ length source → copied ≤ length before → IsFront copied source before → IsResized (copied + n) before mid → IsFilled copied (copied + n) source mid now → IsFront (copied + n) source now
front_more copied n source before mid now within reaches front resized filled =
    let size : length now ≡ copied + n = filled.size ∙ resized.size in
    record {
      within = within;
      same = same_lists (take (copied + n) now) (take (copied + n) source) (take-size (copied + n) now ∙ least_of (length now) (length source) size within ∙ sym (take-size (copied + n) source)) (λ k d low.
          let under : k < copied + n = shorter k low size in
          get_or_default (take (copied + n) now) k d 0 low
          ∙ take-at (copied + n) k now under
          ∙ elim (cases_lt k copied) [
            | inl early ↦ filled.front k early ∙ resized.same k (omega arith) (omega arith) ∙ front_bytes copied source before front k early
            | inr late ↦ filled.filled k late under
          ]
          ∙ sym (take-at (copied + n) k source under)
          ∙ get_or_default (take (copied + n) source) k 0 d (omega (arith, take-size (copied + n) source)));
    }
  where
    least_of : (a b : ℕ) → a ≡ copied + n → copied + n ≤ b → min a (copied + n) ≡ min b (copied + n)
    least_of a b is low = omega arith

    shorter : (k : ℕ) → k < length (take (copied + n) now) → length now ≡ copied + n → k < copied + n
    shorter k low size = omega (arith, take-size (copied + n) now)

-- four files of the base, and no journal and no shadow, are all but the signature
pub all_but_signed : (files held : Files) → IsUnsigned held → IsSameFrom 0 (backed_up files Jdt) (held Jdt) → IsSameFrom 1 (backed_up files Jhr) (held Jhr) → IsSameFrom 0 (backed_up files Jdx) (held Jdx) → IsSameFrom 0 (backed_up files Jlr) (held Jlr)
    → IsAllButSigned (backed_up files) held
all_but_signed files held unsigned texts headers index marks = record { others = each; headers = headers }
  where
    each : (f : FileId) → f ≢ Jhr → held f ≡ backed_up files f
    each Jhr ne = absurd (ne refl)
    each Jdt ne = same_bytes _ _ texts
    each Jdx ne = same_bytes _ _ index
    each Jlr ne = same_bytes _ _ marks
    each Jnl ne = unsigned.journal
    each Ndt ne = unsigned.shadow

-- a later place of the file
pub copyable_later : (f : FileId) (from at : ℕ) → IsCopyable f from → from ≤ at → IsCopyable f at
copyable_later f from at copyable low = record { base = copyable.base; behind = λ is. let behind = copyable.behind is in omega arith }

-- it ends
pub filling_end : (s0 s1 t0 t1 : Device) (f : FileId) (from at end : ℕ) → end ≤ at → Filling s0 s1 t0 t1 f from at end → ForSome s0.contents (λ files. Turns (λ before now. IsFilled from end (files f) (before f) (now f)) t0.contents t1.contents)
filling_end s0 s1 t0 t1 f from at end past was =
    let high = was.high in
    let is : at ≡ end = omega arith in
    λ files there. subst (λ (n : ℕ). Turns (λ before now. IsFilled from n (files f) (before f) (now f)) t0.contents t1.contents) is (was.told files there)

-- a file that is as before reaches as far
pub reaches_as : (f : FileId) (low high : ℕ) (old new : Option Files) → low ≤ high → new ≡ old → Reaches old f high → Reaches new f low
reaches_as f low high old new less same within = λ files there. let long = within files (sym same ∙ there) in omega arith

-- which places are copied from
pub copyable_texts : (from : ℕ) → IsCopyable Jdt from
copyable_texts from = record { base = omega arith; behind = λ is. absurd (apart is) }
  where
    apart : Jdt ≡ Jhr → ⊥
    apart e = cc e

pub copyable_headers : IsCopyable Jhr 1
copyable_headers = record { base = omega arith; behind = λ is. omega arith }

pub copyable_index : IsCopyable Jdx 0
copyable_index = record { base = omega arith; behind = λ is. absurd (apart is) }
  where
    apart : Jdx ≡ Jhr → ⊥
    apart e = cc e

pub copyable_marks : IsCopyable Jlr 0
copyable_marks = record { base = omega arith; behind = λ is. absurd (apart is) }
  where
    apart : Jlr ≡ Jhr → ⊥
    apart e = cc e

-- what the front of each of them is
pub texts_good : (copied : ℕ) (files : Files) (target : Option Files) → copied ≤ ceiling_of Jdt → ForSome target (λ held. IsFront copied (files Jdt) (held Jdt)) → HasGood 0 copied Jdt files target
texts_good copied files target low front = λ held there. front_good copied files held low (front held there)

pub headers_good : (files : Files) (target : Option Files) → HasGood 1 1 Jhr files target
headers_good files target = λ held there. record { within = omega (arith, headed-size 74 (capped Jhr (files Jhr))); same = λ i low high. absurd (omega arith) }

pub none_good : (f : FileId) (files : Files) (target : Option Files) → HasGood 0 0 f files target
none_good f files target = λ held there. record { within = omega arith; same = λ i low high. absurd (omega arith) }

-- four files that are copied one behind another
pub four_copied : (files : Files) (t1 t2 t3 t4 : Device) → LeavesOthers Jhr t1 t2 → LeavesOthers Jdx t2 t3 → LeavesOthers Jlr t3 t4 → Shows (λ held. IsSameFrom 0 (backed_up files Jdt) (held Jdt)) t1
    → Shows (λ held. IsSameFrom 1 (backed_up files Jhr) (held Jhr)) t2 → Shows (λ held. IsSameFrom 0 (backed_up files Jdx) (held Jdx)) t3 → Shows (λ held. IsSameFrom 0 (backed_up files Jlr) (held Jlr)) t4 → Shows IsUnsigned t4
    → Shows (IsAllButSigned (backed_up files)) t4
four_copied files t1 t2 t3 t4 headers_others index_others marks_others texts headers index marks unsigned =
    let texts2 = (headers_others Jdt (λ e. texts_headers e) 0 (backed_up files Jdt)).shows texts in
    let texts3 = (index_others Jdt (λ e. texts_index e) 0 (backed_up files Jdt)).shows texts2 in
    let texts4 = (marks_others Jdt (λ e. texts_marks e) 0 (backed_up files Jdt)).shows texts3 in
    let headers3 = (index_others Jhr (λ e. headers_index e) 1 (backed_up files Jhr)).shows headers in
    let headers4 = (marks_others Jhr (λ e. headers_marks e) 1 (backed_up files Jhr)).shows headers3 in
    let index4 = (marks_others Jdx (λ e. index_marks e) 0 (backed_up files Jdx)).shows index in
    let P : Files → Type 0 = λ held. IsUnsigned held × IsSameFrom 0 (backed_up files Jdt) (held Jdt) in
    let Q : Files → Type 0 = λ held. P held × IsSameFrom 1 (backed_up files Jhr) (held Jhr) in
    let R : Files → Type 0 = λ held. Q held × IsSameFrom 0 (backed_up files Jdx) (held Jdx) in
    let p : Shows P t4 = shows_both IsUnsigned (λ held. IsSameFrom 0 (backed_up files Jdt) (held Jdt)) P t4 (λ held a b. (a, b)) unsigned texts4 in
    let q : Shows Q t4 = shows_both P (λ held. IsSameFrom 1 (backed_up files Jhr) (held Jhr)) Q t4 (λ held a b. (a, b)) p headers4 in
    let r : Shows R t4 = shows_both Q (λ held. IsSameFrom 0 (backed_up files Jdx) (held Jdx)) R t4 (λ held a b. (a, b)) q index4 in
    shows_both R (λ held. IsSameFrom 0 (backed_up files Jlr) (held Jlr)) (IsAllButSigned (backed_up files)) t4 (λ held a b. all_but_signed files held a.0.0.0 a.0.0.1 a.0.1 a.1 b) r marks
  where
    texts_headers : Jdt ≡ Jhr → ⊥
    texts_headers e = cc e

    texts_index : Jdt ≡ Jdx → ⊥
    texts_index e = cc e

    texts_marks : Jdt ≡ Jlr → ⊥
    texts_marks e = cc e

    headers_index : Jhr ≡ Jdx → ⊥
    headers_index e = cc e

    headers_marks : Jhr ≡ Jlr → ⊥
    headers_marks e = cc e

    index_marks : Jdx ≡ Jlr → ⊥
    index_marks e = cc e

-- the front of the texts once a part more is copied, where the disk tells
pub front_copied : (copied n : ℕ) (files : Files) (o0 o1 o2 : Option Files) (chunk : List ℕ) → copied + n ≤ length (files Jdt) → Reaches o0 Jdt copied → length chunk ≡ n → chunk ≡ take n (drop copied (files Jdt))
    → Turns (InFile Jdt (IsResized (copied + n))) o0 o1 → o2 ≡ option_map (written Jdt copied chunk) o1 → ForSome o0 (λ held. IsFront copied (files Jdt) (held Jdt)) → ForSome o2 (λ held. IsFront (copied + n) (files Jdt) (held Jdt))
front_copied copied n files None None o2 chunk within reaches size is resized told front = λ held there. absurd (nothing held (sym told ∙ there))
  where
    nothing : (held : Files) → None ≡ Some held → ⊥
    nothing held e = cc e
front_copied copied n files None (Some mid) o2 chunk within reaches size is resized told front = absurd resized
front_copied copied n files (Some before) None o2 chunk within reaches size is resized told front = absurd resized
front_copied copied n files (Some before) (Some mid) o2 chunk within reaches size is resized told front = λ held there.
    let same : written Jdt copied chunk mid ≡ held = some_same (sym told ∙ there) in
    let long = resized.here.size in
    let filled = filled_more copied copied n (files Jdt) (mid Jdt) (mid Jdt) chunk (omega arith) size (omega arith) is (filled_none copied (files Jdt) (mid Jdt)) in
    let front_now = front_more copied n (files Jdt) (before Jdt) (mid Jdt) (overwritten copied chunk (mid Jdt)) within (reaches before refl) (front before refl) resized.here filled in
    subst (λ (g : Files). IsFront (copied + n) (files Jdt) (g Jdt)) same (subst (IsFront (copied + n) (files Jdt)) (sym (with_file-here Jdt (overwritten copied chunk (mid Jdt)) mid)) front_now)

-- nothing of the texts is copied yet
pub front_none : (copied : ℕ) (files : Files) (target : Option Files) → copied ≡ 0 → ForSome target (λ held. IsFront copied (files Jdt) (held Jdt))
front_none copied files target none = λ held there. record { within = omega (arith, none); same = subst (λ (n : ℕ). take n (held Jdt) ≡ take n (files Jdt)) (sym none) refl }
