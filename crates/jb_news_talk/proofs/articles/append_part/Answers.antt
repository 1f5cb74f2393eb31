use Rattle.std.proofs.Common.{◌≡◌, ℕ, List, [], ◌++◌, ap, sym, subst, ◌∙◌, append_assoc}
use Rattle.std.specs.Prelude.{Err, Ok, OnOk, Result}
use Rattle.jb_text.specs.Letter.{line}
use Rattle.jb_news.specs.Body.{body_text}
use Rattle.jb_news.specs.Headers.{headers_text}
use Rattle.jb_news.specs.Responses.{end_text}
use Rattle.jb_news.specs.declared.command.Part.{Part}
use Rattle.jb_news_talk.specs.Articles.{part_text}
use Rattle.jb_news_talk.proofs.articles.append_part.Goals as goal

-- behind a text, one after the other
one_by_one : (text headers empty body end : List ℕ) → (((text ++ headers) ++ empty) ++ body) ++ end ≡ text ++ (((headers ++ empty) ++ body) ++ end)
one_by_one text headers empty body end = simp append_assoc

on_ok : {T E : Type 0} (r : Result T E) (P Q : Type 0) → (P → Q) → OnOk r P → OnOk r Q
on_ok (Ok x) P Q f p = f p
on_ok (Err e) P Q f p = tt

pub returns-in_ok-append_body-in-Article : goal.returns-in_ok-append_body-in-Article
returns-in_ok-append_body-in-Article c =
    let text = c.args.text.now in
    let headers = headers_text c.args.area c.args.letter.now in
    let body = body_text c.as_slice.result.now in
    let told : c.append_body.new.text ≡ ((text ++ headers) ++ line []) ++ body =
    c.in_ok-append_body-in-Article.ensures
    ∙ ap (λ (w : List ℕ). w ++ body) (c.in_ok-append_line_end-in-Article.ensures ∙ ap (λ (w : List ℕ). w ++ line []) c.in_ok-append_headers-in-Article.ensures) in
    let whole : List ℕ → Part → Type 0 = λ sent part. sent ≡ text ++ part_text part c.args.area c.args.letter.now in
    let behind : List ℕ → List ℕ = λ shown. text ++ (((headers ++ line []) ++ shown) ++ end_text) in
    on_ok c.append_end.result (c.append_end.new.text ≡ c.append_body.new.text ++ end_text) (whole c.append_end.new.text c.args.part)
    (λ ended. subst (whole c.append_end.new.text) (sym c.in-Article.is)
    (ended ∙ ap (λ (w : List ℕ). w ++ end_text) told ∙ one_by_one text headers (line []) body end_text ∙ ap (λ (w : List ℕ). behind (body_text w)) c.as_slice.ensures))
    c.append_end.ensures
