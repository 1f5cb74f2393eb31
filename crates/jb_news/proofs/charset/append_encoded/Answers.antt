use Rattle.std.proofs.Common.{◌≡◌, ℕ, ◌<◌, ◌++◌, List, length, take, drop, ap, ◌∙◌, arith}
use Rattle.std.proofs.lemmas.Bool.Decides.{nat_tests}
use Rattle.jb_news.specs.Charsets.{encoded, encoded_word, parting, piece_length}
use Rattle.jb_news.proofs.EncodedLemmas.{encoded_some, one_word}
use Rattle.jb_news.proofs.charset.append_encoded.Goals as goal

pub loop-rest-preserved : goal.loop-rest-preserved
loop-rest-preserved c =
    let charset = c.args.charset in
    let rest = c.loop-rest.rest.now in
    let size = piece_length charset rest in
    let some : 0 < length rest = grind (arith, nat_tests) in
    let front : c.split.result.0.now ≡ take size rest = c.split.ensures.front ∙ ap (λ (n : ℕ). take n rest) c.piece_length.ensures.value in
    let behind : c.split.result.1.now ≡ drop size rest = c.split.ensures.behind ∙ ap (λ (n : ℕ). drop n rest) c.piece_length.ensures.value in
    let fold = c.args.fold.now in
    let worded : c.append_word.new.text ≡ c.loop-rest.text ++ encoded_word charset (take size rest) =
    c.in_ok-append_word.ensures ∙ ap (λ (l : List ℕ). c.loop-rest.text ++ encoded_word charset l) front in
    let parted : c.append_parting.new.text ≡ c.append_word.new.text ++ parting fold (drop size rest) =
    c.in_ok-append_parting.ensures ∙ ap (λ (l : List ℕ). c.append_word.new.text ++ parting fold l) behind in
    ap (λ (l : List ℕ). c.append_parting.new.text ++ encoded fold charset l) behind
    ∙ one_word c.loop-rest.text c.append_word.new.text c.append_parting.new.text (encoded_word charset (take size rest)) (parting fold (drop size rest))
    (encoded fold charset (drop size rest)) (encoded fold charset rest) (c.args.text.now ++ encoded fold charset c.args.bytes.now)
    worded parted (encoded_some fold charset rest some) c.loop-rest.invariant
