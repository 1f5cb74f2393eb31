-- A key more, for whole lists of keys.
use Rattle.std.proofs.Common.{◌≡◌, Bool, false, List, [], ◌∷◌, ◌++◌, length, refl, sym, ap, subst, append_assoc, append-nil}
use Rattle.std.proofs.lemmas.List.Sums.{fold-append}
use Rattle.jb_line.specs.declared.key.Key.{Key}
use Rattle.jb_line.specs.declared.key.Meaning.{Meaning}
use Rattle.jb_line.specs.declared.key.Meaning.TheVariants.{Return, Feed, DropLast, DropAll, Append, Ignore}
use Rattle.jb_line.specs.Keys.{meaning_of}
use Rattle.jb_line.specs.Typing.{Typing, text_by, is_return, line_by, line_of, typing_after}
use Rattle.jb_line.specs.Lines.{typing_of, Placed, placed, lines_behind, typed_lines, HasTyped}

lines_behind-append : (before xs ys : List Key) → lines_behind before (xs ++ ys) ≡ lines_behind before xs ++ lines_behind (before ++ xs) ys
lines_behind-append before [] ys = ap (λ w. lines_behind w ys) (sym (append-nil before))
lines_behind-append before (key ∷ xs) ys =
    rw (lines_behind-append (before ++ key ∷ []) xs ys, append_assoc before (key ∷ []) xs)
    (sym (append_assoc (placed (length before) (line_of (typing_of false before) key)) (lines_behind (before ++ key ∷ []) xs) (lines_behind (before ++ key ∷ xs) ys)))

-- which line ends does not depend on the mask
line_by-mask : (masked : Bool) (keys : List Key) (meaning : Meaning) → line_by (typing_of masked keys) meaning ≡ line_by (typing_of false keys) meaning
line_by-mask masked keys Return = refl
line_by-mask masked keys Feed = refl
line_by-mask masked keys DropLast = refl
line_by-mask masked keys DropAll = refl
line_by-mask masked keys (Append byte) = refl
line_by-mask masked keys Ignore = refl

typing_after-typing_of : (masked : Bool) (keys : List Key) (key : Key) → typing_after (typing_of masked keys) key ≡ typing_of masked (keys ++ key ∷ [])
typing_after-typing_of masked keys key =
    rw (fold-append (λ text key. text_by text (meaning_of key)) [] keys (key ∷ []), fold-append (λ before key. is_return (meaning_of key)) false keys (key ∷ [])) refl

typed_lines-push : (masked : Bool) (keys : List Key) (key : Key) → typed_lines keys ++ placed (length keys) (line_of (typing_of masked keys) key) ≡ typed_lines (keys ++ key ∷ [])
typed_lines-push masked keys key =
    rw (line_by-mask masked keys (meaning_of key), lines_behind-append [] keys (key ∷ []), append-nil (placed (length keys) (line_of (typing_of false keys) key))) refl

-- the keys and a key more lead to the state behind that key
pub typed_on : (typing : Typing) (keys : List Key) (lines : List Placed) (key : Key) → HasTyped typing keys lines
    → HasTyped (typing_after typing key) (keys ++ key ∷ []) (lines ++ placed (length keys) (line_of typing key))
typed_on typing keys lines key typed =
    let P : Typing → Type 0 = λ w. HasTyped (typing_after w key) (keys ++ key ∷ []) (lines ++ placed (length keys) (line_of w key)) in
    subst P (sym typed.reached) (record {
      reached = typing_after-typing_of typing.masked keys key;
      ended = rw typed.ended (typed_lines-push typing.masked keys key);
    })
