-- One shelf is changed: what the shelves hold then.
use Rattle.std.proofs.Common.{◌≡◌, ℕ, zero, suc, ◌<◌, Bool, true, false, ◌&&◌, List, [], ◌∷◌, length, set, ap, sym, ◌∙◌, refl, arith}
use Rattle.std.specs.Prelude.{◌≢◌, bytes_eq, slice_index_or, if◌then◌else◌, Option, Some, None, IfSome, IfNone}
use Rattle.std.proofs.Common.{Bor, ◌++◌}
use Rattle.std.specs.Option.{option_copied}
use Rattle.jb_disk.specs.Device.{Device}
use Rattle.std.proofs.lemmas.Bool.{and_parts, false≢true}
use Rattle.std.proofs.lemmas.Slice.Eq.{bytes_eq-Decides}
use Rattle.jb_disk.specs.Memory.{Recording, memory_device}
use Rattle.jb_host.specs.declared.shelf.Shelf.{Shelf}
use Rattle.jb_host.specs.Desk.{DiskPlace, has_disk, no_disk, handed_out, or_behind, with_behind, with_place}
use Rattle.jb_host.specs.Shelves.{is_for, shelved, stands_on}

-- the shelf of a folder and a name has these
shelf_key : (dir name : List ℕ) (shelf : Shelf) → is_for dir name shelf ≡ true → (dir ≡ shelf.dir) × (name ≡ shelf.name)
shelf_key dir name shelf is =
    let both = and_parts _ _ is in
    ((bytes_eq-Decides dir shelf.dir).0 both.0, (bytes_eq-Decides name shelf.name).0 both.1)

-- two ways of asking for the same shelf
same_key : (dir name : List ℕ) (shelf : Shelf) (other_dir other_name : List ℕ) → is_for dir name shelf ≡ true
    → is_for other_dir other_name shelf ≡ (bytes_eq other_dir dir && bytes_eq other_name name)
same_key dir name shelf other_dir other_name is =
    let key = shelf_key dir name shelf is in
    ap (λ (d : List ℕ). bytes_eq other_dir d && bytes_eq other_name shelf.name) (sym key.0) ∙ ap (λ (n : List ℕ). bytes_eq other_dir dir && bytes_eq other_name n) (sym key.1)

-- a choice made twice by the same test
pub twice : {A : Type 0} (b c : Bool) (x y z : A) → c ≡ b → (if b then x else z) ≡ (if b then x else (if c then y else z))
twice true c x y z same = refl
twice false true x y z same = absurd (cc)
twice false false x y z same = refl

-- a choice before another that it leaves alone
pub swapped : {A : Type 0} (b c : Bool) (x y z : A) → (b ≡ true → c ≡ false) → (if c then y else (if b then x else z)) ≡ (if b then x else (if c then y else z))
swapped true true x y z not = absurd (false≢true (sym (not refl)))
swapped true false x y z not = refl
swapped false true x y z not = refl
swapped false false x y z not = refl

-- the first shelf is the one
first_set : (dir name : List ℕ) (shelf now : Shelf) (rest : List Shelf) (other_dir other_name : List ℕ)
    → is_for dir name shelf ≡ true → now.dir ≡ shelf.dir → now.name ≡ shelf.name
    → shelved (now ∷ rest) other_dir other_name ≡ with_place dir name (stands_on now.disk) (shelved (shelf ∷ rest)) other_dir other_name
first_set dir name shelf now rest other_dir other_name is same_dir same_name =
    let key : is_for other_dir other_name now ≡ is_for other_dir other_name shelf =
    ap (λ (d : List ℕ). bytes_eq other_dir d && bytes_eq other_name now.name) same_dir ∙ ap (λ (n : List ℕ). bytes_eq other_dir shelf.dir && bytes_eq other_name n) same_name in
    let same = same_key dir name shelf other_dir other_name is in
    ap (λ (b : Bool). if b then stands_on now.disk else shelved rest other_dir other_name) (key ∙ same)
    ∙ twice (bytes_eq other_dir dir && bytes_eq other_name name) (is_for other_dir other_name shelf) (stands_on now.disk) (stands_on shelf.disk) (shelved rest other_dir other_name) same

-- a shelf is changed: the place that it is for holds what stands there now, every other the same
shelved_at : (dir name : List ℕ) (shelves : List Shelf) (k : ℕ) (now d : Shelf) (other_dir other_name : List ℕ) → k < length shelves
    → is_for dir name (slice_index_or shelves k d) ≡ true → ((j : ℕ) → j < k → is_for dir name (slice_index_or shelves j d) ≡ false)
    → now.dir ≡ (slice_index_or shelves k d).dir → now.name ≡ (slice_index_or shelves k d).name
    → shelved (set shelves k now) other_dir other_name ≡ with_place dir name (stands_on now.disk) (shelved shelves) other_dir other_name
shelved_at dir name [] k now d other_dir other_name within is before same_dir same_name = absurd (omega arith)
shelved_at dir name (shelf ∷ rest) zero now d other_dir other_name within is before same_dir same_name =
    first_set dir name shelf now rest other_dir other_name is same_dir same_name
shelved_at dir name (shelf ∷ rest) (suc k) now d other_dir other_name within is before same_dir same_name =
    let inner = shelved_at dir name rest k now d other_dir other_name (omega arith) is (λ j low. before (suc j) (omega arith)) same_dir same_name in
    let key = bytes_eq other_dir dir && bytes_eq other_name name in
    ap (λ (p : DiskPlace). if is_for other_dir other_name shelf then stands_on shelf.disk else p) inner
    ∙ swapped key (is_for other_dir other_name shelf) (stands_on now.disk) (stands_on shelf.disk) (shelved rest other_dir other_name)
    (λ asked. let both = and_parts _ _ asked in
    ap (λ (e : List ℕ). bytes_eq e shelf.dir && bytes_eq other_name shelf.name) ((bytes_eq-Decides other_dir dir).0 both.0)
    ∙ ap (λ (n : List ℕ). bytes_eq dir shelf.dir && bytes_eq n shelf.name) ((bytes_eq-Decides other_name name).0 both.1)
    ∙ before 0 (omega arith))

-- the same, of all places at once
pub shelved-set : (dir name : List ℕ) (shelves : List Shelf) (k : ℕ) (now d : Shelf) → k < length shelves
    → is_for dir name (slice_index_or shelves k d) ≡ true → ((j : ℕ) → j < k → is_for dir name (slice_index_or shelves j d) ≡ false)
    → now.dir ≡ (slice_index_or shelves k d).dir → now.name ≡ (slice_index_or shelves k d).name
    → shelved (set shelves k now) ≡ with_place dir name (stands_on now.disk) (shelved shelves)
shelved-set dir name shelves k now d within is before same_dir same_name =
    λ i. λ other_dir other_name. shelved_at dir name shelves k now d other_dir other_name within is before same_dir same_name i

-- the first shelf for a folder and a name tells
pub shelved-first : (dir name : List ℕ) (shelves : List Shelf) (k : ℕ) (d : Shelf) → k < length shelves
    → is_for dir name (slice_index_or shelves k d) ≡ true → ((j : ℕ) → j < k → is_for dir name (slice_index_or shelves j d) ≡ false)
    → shelved shelves dir name ≡ stands_on (slice_index_or shelves k d).disk
shelved-first dir name [] k d within is before = absurd (omega arith)
shelved-first dir name (shelf ∷ rest) zero d within is before = ap (λ (b : Bool). if b then stands_on shelf.disk else shelved rest dir name) is
shelved-first dir name (shelf ∷ rest) (suc k) d within is before =
    ap (λ (b : Bool). if b then stands_on shelf.disk else shelved rest dir name) (before 0 (omega arith)) ∙ shelved-first dir name rest k d (omega arith) is (λ j low. before (suc j) (omega arith))

-- no shelf is for a folder and a name
pub shelved-none : (dir name : List ℕ) (shelves : List Shelf) (d : Shelf) → ((k : ℕ) → k < length shelves → is_for dir name (slice_index_or shelves k d) ≡ false)
    → shelved shelves dir name ≡ no_disk
shelved-none dir name [] d none = refl
shelved-none dir name (shelf ∷ rest) d none =
    ap (λ (b : Bool). if b then stands_on shelf.disk else shelved rest dir name) (none 0 (omega arith)) ∙ shelved-none dir name rest d (λ k low. none (suc k) (omega arith))

-- what was taken off a shelf is what stood there
pub stood_there : (stood taken : Option Recording) (place : DiskPlace) → taken ≡ stood → place ≡ stands_on stood → IfSome taken (λ disk. place ≡ has_disk (memory_device disk))
stood_there stood None place same is = tt
stood_there stood (Some disk) place same is = is ∙ ap stands_on (sym same)

-- a fact that holds anyway
pub if_some : {A : Type 0} (o : Option A) (P : Type 0) → P → IfSome o (λ _. P)
if_some None P p = tt
if_some (Some x) P p = p

-- what is lent is what stands there
pub lent_there : (place : DiskPlace) (stood : Option Recording) (lent : Option (Bor Recording)) → option_copied lent ≡ stood → place ≡ stands_on stood → IfSome lent (λ disk. place ≡ has_disk (memory_device disk.now))
lent_there place stood None same is = tt
lent_there place stood (Some disk) same is = is ∙ ap stands_on (sym same)

-- and where nothing is lent, no disk stands there
pub lent_none : (place : DiskPlace) (stood : Option Recording) (lent : Option (Bor Recording)) → option_copied lent ≡ stood → place ≡ stands_on stood → IfNone lent ((device : Device) → place ≢ has_disk device)
lent_none place stood (Some disk) same is = tt
lent_none place stood None same is = λ device there. let out : handed_out ≡ has_disk device = sym (is ∙ ap stands_on (sym same)) ∙ there in absurd (cc)

-- a fact that holds anyway
pub if_none : {A : Type 0} (o : Option A) (P : Type 0) → P → IfNone o P
if_none None P p = p
if_none (Some x) P p = tt

-- a place with another behind it
or_further : (first : Bool) (stood : Option Recording) (rest more behind : DiskPlace) → more ≡ or_behind rest behind
    → (if first then stands_on stood else more) ≡ or_behind (if first then stands_on stood else rest) behind
or_further true None rest more behind is = refl
or_further true (Some disk) rest more behind is = refl
or_further false stood rest more behind is = is

-- one shelf more, behind the others
shelved-behind : (dir name : List ℕ) (shelves : List Shelf) (shelf : Shelf) (other_dir other_name : List ℕ) → shelf.dir ≡ dir → shelf.name ≡ name
    → shelved (shelves ++ shelf ∷ []) other_dir other_name ≡ with_behind dir name (stands_on shelf.disk) (shelved shelves) other_dir other_name
shelved-behind dir name [] shelf other_dir other_name same_dir same_name =
    ap (λ (d : List ℕ). if bytes_eq other_dir d && bytes_eq other_name shelf.name then stands_on shelf.disk else no_disk) same_dir
    ∙ ap (λ (n : List ℕ). if bytes_eq other_dir dir && bytes_eq other_name n then stands_on shelf.disk else no_disk) same_name
shelved-behind dir name (first ∷ shelves) shelf other_dir other_name same_dir same_name =
    or_further (is_for other_dir other_name first) first.disk (shelved shelves other_dir other_name) (shelved (shelves ++ shelf ∷ []) other_dir other_name)
    (if bytes_eq other_dir dir && bytes_eq other_name name then stands_on shelf.disk else no_disk)
    (shelved-behind dir name shelves shelf other_dir other_name same_dir same_name)

-- the same, of all places at once
pub shelved-push : (dir name : List ℕ) (shelves : List Shelf) (shelf : Shelf) → shelf.dir ≡ dir → shelf.name ≡ name
    → shelved (shelves ++ shelf ∷ []) ≡ with_behind dir name (stands_on shelf.disk) (shelved shelves)
shelved-push dir name shelves shelf same_dir same_name =
    λ i. λ other_dir other_name. shelved-behind dir name shelves shelf other_dir other_name same_dir same_name i
