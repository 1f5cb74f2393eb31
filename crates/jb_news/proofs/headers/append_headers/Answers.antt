use Rattle.std.proofs.Common.{◌≡◌, ℕ, ◌++◌, List, ap, ◌∙◌}
use Rattle.std.specs.Prelude.{codes}
use Rattle.jb_text.specs.Letter.{heading}
use Rattle.jb_news.specs.declared.charset.Charset.{Charset}
use Rattle.jb_news.specs.Charsets.{charset_of, field_text, folded, whole_name, whole_subject}
use Rattle.jb_news.specs.Dates.{mail_date}
use Rattle.jb_news.specs.Headers.{first_headers, mime_headers, names_text, references_text}
use Rattle.jb_news.proofs.Growing.{longer}
use Rattle.jb_news.proofs.headers.append_headers.Goals as goal

pub returns : goal.returns
returns c =
    let text = c.args.text.now in
    let area = c.args.area in
    let letter = c.args.letter.now in
    let first = first_headers letter.from in
    let subject = heading (codes "Subject: ") (field_text folded (whole_subject letter.subject)) in
    let date = heading (codes "Date: ") (mail_date letter.written) in
    let names = names_text area letter.number in
    let references = references_text area letter.reply_to in
    let to = heading (codes "X-JAM-To: ") (field_text folded (whole_name letter.to)) in
    let one : c.append_first.new.text ≡ text ++ first =
    c.in_ok-append_first.ensures ∙ ap (λ (l : List ℕ). text ++ first_headers l) c.as_slice.ensures in
    let two : c.append_heading.new.text ≡ text ++ (first ++ subject) =
    longer text c.append_first.new.text c.append_heading.new.text first subject
    (c.in_ok-append_heading.ensures ∙ ap (λ (l : List ℕ). c.append_first.new.text ++ heading (codes "Subject: ") (field_text folded l)) (c.whole_subject.ensures ∙ ap whole_subject c.as_slice-2.ensures)) one in
    let three : c.append_date.new.text ≡ text ++ (first ++ subject ++ date) =
    longer text c.append_heading.new.text c.append_date.new.text (first ++ subject) date c.in_ok-append_date.ensures two in
    let four : c.append_names.new.text ≡ text ++ (first ++ subject ++ date ++ names) =
    longer text c.append_date.new.text c.append_names.new.text (first ++ subject ++ date) names c.in_ok-append_names.ensures three in
    let five : c.append_references.new.text ≡ text ++ (first ++ subject ++ date ++ names ++ references) =
    longer text c.append_names.new.text c.append_references.new.text (first ++ subject ++ date ++ names) references c.in_ok-append_references.ensures four in
    let six : c.append_heading-2.new.text ≡ text ++ (first ++ subject ++ date ++ names ++ references ++ to) =
    longer text c.append_references.new.text c.append_heading-2.new.text (first ++ subject ++ date ++ names ++ references) to
    (c.in_ok-append_heading-2.ensures ∙ ap (λ (l : List ℕ). c.append_references.new.text ++ heading (codes "X-JAM-To: ") (field_text folded l)) (c.whole_name.ensures ∙ ap whole_name c.as_slice-3.ensures)) five in
    longer text c.append_heading-2.new.text c.append_mime.new.text (first ++ subject ++ date ++ names ++ references ++ to) (mime_headers (charset_of letter.text))
    (c.in_ok-append_mime.ensures ∙ ap (λ (k : Charset). c.append_heading-2.new.text ++ mime_headers k) (c.charset_of.ensures ∙ ap charset_of c.as_slice-4.ensures)) six
