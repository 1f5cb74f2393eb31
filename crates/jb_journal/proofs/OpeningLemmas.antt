-- The moment at which the gate has come to stand open.
use Rattle.std.proofs.Common.{◌≡◌, inl, inr, ℕ, List, [], ◌∷◌, ◌++◌, refl, ap, sym, ◌∙◌, subst, Option, Some, None, Result, Ok, Err, append_assoc, true, false}
use Rattle.std.specs.Prelude.{IsErr}
use Rattle.jb_disk.specs.declared.file.FileId.{FileId}
use Rattle.jb_disk.specs.Files.{Files}
use Rattle.jb_disk.specs.FileLaws.{same_file}
use Rattle.jb_disk.specs.Images.{Images, Unsynced, IsImage, IsLeft, just_synced, torn, with_image}
use Rattle.jb_disk.specs.ImageLaws.{left-torn, with_image-here, with_image-other}
use Rattle.jb_disk.specs.Device.{Device, MayChange, Syncs, TellsAnImage, and_then}
use Rattle.jb_disk.specs.Moments.{AtNewest, AtEach, IsPossible}
use Rattle.jb_disk.specs.Runs.{LeavesNow, LeavesAlways, Runs}
use Rattle.jb_disk.specs.Gate.{IsGateOpen}
use Rattle.jb_journal.specs.Opening.{MayBeShut, StaysShut, OpensNow, OpensGate, WhereTold}
use Rattle.jb_journal.specs.Writing.{Widens, WidensThen, WidensFor}

-- some moment is one
pub some_moment : (now : Images) (earlier : List Images) → (now ∷ earlier) ≡ [] → ⊥
some_moment now earlier none = cc

-- what is claimed where images are told
pub where_told : (moments : List Images) (claim : Type 0) → ((now : Images) (earlier : List Images) → moments ≡ now ∷ earlier → claim) → WhereTold moments claim
where_told [] claim told = tt
where_told (now ∷ earlier) claim told = told now earlier refl

-- and what it says there
pub told_claim : (moments : List Images) (claim : Type 0) (now : Images) (earlier : List Images) → moments ≡ now ∷ earlier → WhereTold moments claim → claim
told_claim [] claim now earlier is where_it = absurd (some_moment now earlier (sym is))
told_claim (first ∷ rest) claim now earlier is where_it = where_it

-- a write that is not seen is one that may be left
image-torn : (f : FileId) (at len : ℕ) (images : Images) (files : Files) → IsImage images files → IsImage (with_image f (torn at len) images) files
image-torn f at len images files was g = elim (same_file g f) [
  | inl same ↦ subst (λ (h : FileId). IsLeft (with_image f (torn at len) images h) (files h)) (sym same)
      (subst (λ (u : Unsynced). IsLeft u (files f)) (sym (with_image-here f (torn at len) images)) (left-torn at len (images f) (files f) (was f)))
  | inr other ↦ subst (λ (u : Unsynced). IsLeft u (files g)) (sym (with_image-other f g (torn at len) images other)) (was g)
]

-- a write that was tried
pub widens_torn : (f : FileId) (at len : ℕ) (old new : List Images) → MayChange (with_image f (torn at len)) old new → Widens old new
widens_torn f at len old new (inl same) = record { until = []; all = same; wide = λ files image. tt }
widens_torn f at len [] new (inr more) = record { until = []; all = more; wide = λ files image. tt }
widens_torn f at len (now ∷ earlier) new (inr more) = record {
  until = with_image f (torn at len) now ∷ [];
  all = more;
  wide = λ files image. (image-torn f at len now files image, tt);
}

-- a write that was done, and then a sync that was done or not
pub widens_synced : {T E : Type 0} (f : FileId) (at len : ℕ) (old mid new : Device) (result : Result T E) (now : Images) (earlier : List Images) → old.moments ≡ now ∷ earlier → TellsAnImage mid
    → mid.moments ≡ and_then (with_image f (torn at len)) old.moments → Syncs f mid new result → WidensFor result old.moments new.moments
widens_synced f at len old mid new (Ok value) now earlier is tells wrote syncs = by_contents mid.contents refl
  where
    wrote_is : mid.moments ≡ with_image f (torn at len) now ∷ now ∷ earlier
    wrote_is = wrote ∙ ap (and_then (with_image f (torn at len))) is

    by_contents : (contents : Option Files) → mid.contents ≡ contents → WidensThen old.moments new.moments
    by_contents None none = absurd (some_moment (with_image f (torn at len) now) (now ∷ earlier) (sym wrote_is ∙ tells.both none))
    by_contents (Some files) some =
        let last = with_image f (λ _. just_synced (files f)) (with_image f (torn at len) now) in
        let synced : new.moments ≡ last ∷ with_image f (torn at len) now ∷ now ∷ earlier = syncs.done files some ∙ ap (and_then (with_image f (λ _. just_synced (files f)))) wrote_is in
        record {
          until = with_image f (torn at len) now ∷ [];
          last = last;
          all = synced ∙ ap (λ (l : List Images). last ∷ with_image f (torn at len) now ∷ l) (sym is);
          wide = λ left image. (image-torn f at len now left (subst (AtNewest (λ i. IsImage i left)) is image), tt);
        }
widens_synced f at len old mid new (Err error) now earlier is tells wrote syncs =
    let wrote_is : mid.moments ≡ with_image f (torn at len) now ∷ now ∷ earlier = wrote ∙ ap (and_then (with_image f (torn at len))) is in
    record {
      until = with_image f (torn at len) now ∷ [];
      all = syncs.failed ∙ wrote_is ∙ ap (λ (l : List Images). with_image f (torn at len) now ∷ l) (sym is);
      wide = λ left image. (image-torn f at len now left (subst (AtNewest (λ i. IsImage i left)) is image), tt);
    }

-- false is not true
not_true : false ≡ true → ⊥
not_true is = cc

-- where the writing was refused
pub widens_for_err : {T E : Type 0} (result : Result T E) (old new : List Images) → IsErr result → Widens old new → WidensFor result old new
widens_for_err (Ok value) old new err widens = absurd (not_true err)
widens_for_err (Err error) old new err widens = widens

-- at moments that each have an image, and leave only files with a closed gate
pub always_shut : (P : Files → Type 0) (moments earlier : List Images) → ((files : Files) → P files → IsGateOpen files → ⊥) → LeavesAlways P moments → AtEach IsPossible (moments ++ earlier) → AtEach MayBeShut moments
always_shut P [] earlier shut all possible = tt
always_shut P (now ∷ moments) earlier shut all possible =
    (record { files = possible.0.files; image = possible.0.image; shut = shut possible.0.files (all.0 possible.0.files possible.0.image) }, always_shut P moments earlier shut all.1 possible.1)

-- at moments at which a crash may leave these files, with a closed gate
pub wide_shut : (files : Files) (moments : List Images) → (IsGateOpen files → ⊥) → AtEach (λ now. IsImage now files) moments → AtEach MayBeShut moments
wide_shut files [] shut all = tt
wide_shut files (now ∷ moments) shut all = (record { files = files; image = all.0; shut = shut }, wide_shut files moments shut all.1)

-- two stretches of moments
pub each_append : (Q : Images → Type 0) (later earlier : List Images) → AtEach Q later → AtEach Q earlier → AtEach Q (later ++ earlier)
each_append Q [] earlier none was = was
each_append Q (now ∷ later) earlier all was = (all.0, each_append Q later earlier all.1 was)

-- the record is written, and then the gate: it stays shut where that is refused
pub stays_shut : (P : Files → Type 0) (old mid new : Device) → ((files : Files) → P files → IsGateOpen files → ⊥) → Runs P old.moments mid.moments → LeavesNow P mid.moments → TellsAnImage mid → (now : Images) (earlier : List Images) → mid.moments ≡ now ∷ earlier
    → Widens mid.moments new.moments → StaysShut old.moments new.moments
stays_shut P old mid new shut run left tells now earlier is widens =
    let possible = (subst (AtEach IsPossible) is tells.each).0 in
    let closed : IsGateOpen possible.files → ⊥ = shut possible.files (subst (LeavesNow P) is left possible.files possible.image) in
    let first : AtEach MayBeShut run.later = always_shut P run.later old.moments shut run.only (subst (AtEach IsPossible) run.since tells.each) in
    let second : AtEach MayBeShut widens.until = wide_shut possible.files widens.until closed (widens.wide possible.files (subst (AtNewest (λ i. IsImage i possible.files)) (sym is) possible.image)) in
    record {
      until = widens.until ++ run.later;
      all = widens.all ∙ ap (λ (l : List Images). widens.until ++ l) run.since ∙ sym (append_assoc widens.until run.later old.moments);
      shut = each_append MayBeShut widens.until run.later second first;
    }

-- the record alone
pub stays_shut_before : (P : Files → Type 0) (old new : Device) → ((files : Files) → P files → IsGateOpen files → ⊥) → Runs P old.moments new.moments → TellsAnImage new → StaysShut old.moments new.moments
stays_shut_before P old new shut run tells = record {
  until = run.later;
  all = run.since;
  shut = always_shut P run.later old.moments shut run.only (subst (AtEach IsPossible) run.since tells.each);
}

-- where the writing of the gate was done
pub opens_now : (P property : Files → Type 0) (old mid new : Device) → ((files : Files) → P files → IsGateOpen files → ⊥) → Runs P old.moments mid.moments → LeavesNow P mid.moments → TellsAnImage mid → (now : Images) (earlier : List Images) → mid.moments ≡ now ∷ earlier
    → WidensThen mid.moments new.moments → LeavesNow IsGateOpen new.moments → LeavesNow property new.moments → OpensNow property old.moments new.moments
opens_now P property old mid new shut run left tells now earlier is widens is_open at_once =
    let possible = (subst (AtEach IsPossible) is tells.each).0 in
    let closed : IsGateOpen possible.files → ⊥ = shut possible.files (subst (LeavesNow P) is left possible.files possible.image) in
    let first : AtEach MayBeShut run.later = always_shut P run.later old.moments shut run.only (subst (AtEach IsPossible) run.since tells.each) in
    let second : AtEach MayBeShut widens.until = wide_shut possible.files widens.until closed (widens.wide possible.files (subst (AtNewest (λ i. IsImage i possible.files)) (sym is) possible.image)) in
    let all : new.moments ≡ widens.last ∷ (widens.until ++ run.later) ++ old.moments =
    widens.all ∙ ap (λ (l : List Images). widens.last ∷ widens.until ++ l) run.since ∙ ap (λ (l : List Images). widens.last ∷ l) (sym (append_assoc widens.until run.later old.moments)) in
    record {
      until = widens.until ++ run.later;
      opening = widens.last;
      all = all;
      shut = each_append MayBeShut widens.until run.later second first;
      is_open = subst (LeavesNow IsGateOpen) all is_open;
      at_once = subst (LeavesNow property) all at_once;
    }

-- and then moments that leave only files with the property
pub opens_then : (property : Files → Type 0) (old mid new : List Images) → OpensNow property old mid → Runs property mid new → OpensGate property old new
opens_then property old mid new opens run = record {
  until = opens.until;
  opening = opens.opening;
  since = run.later;
  all = run.since ∙ ap (λ (l : List Images). run.later ++ l) opens.all;
  shut = opens.shut;
  is_open = opens.is_open;
  at_once = opens.at_once;
  only = run.only;
}
