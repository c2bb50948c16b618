-- `key_measured` meets its contract: its content is the definition's, and stands at the buffer's start.
-- Assumes nothing.
use Rattle.std.proofs.Common.{refl}
use Rattle.std.specs.Prelude.{Ok, Err}
use Rattle.std.proofs.lemmas.Result.{err_from_is_err_and}
use Rattle.snbt_form.specs.Lexing.{content_of}
use Rattle.snbt_contents.proofs.Fitted.{sized, ready}
use Rattle.snbt_key_text.proofs.Keys.{string-no, string-long, key-room, key_in}
use Rattle.snbt_key_text.proofs.key_measured.Goals as goal

pub returns-in_err-size : goal.returns-in_err-size
returns-in_err-size c room =
    let a = c.args in
    let p = err_from_is_err_and c.from_residual.result c.from_residual.ensures.1 in
    rw (p.1, p.2)
    (string-no a.text.now a.quoted a.start a.end a.index.0 room _ _ (sized (content_of a.text.now a.quoted a.start a.end) (Err c.in_err-size.field-0.0) c.in_err-size.ensures), refl)

-- Over 65,535 bytes.
pub returns-then-size-gt-STRING : goal.returns-then-size-gt-STRING
returns-then-size-gt-STRING c room =
    let a = c.args in
    let l = sized (content_of a.text.now a.quoted a.start a.end) (Ok c.in_ok-size.size) c.in_ok-size.ensures in
    (string-long a.text.now a.quoted a.start a.end a.index.0 room l c.if-size-gt-STRING.true, refl)

pub put_content-requires : goal.put_content-requires
put_content-requires c =
    let a = c.args in
    let q = c.requires in
    let l = sized (content_of a.text.now a.quoted a.start a.end) (Ok c.in_ok-size.size) c.in_ok-size.ensures in
    ready _ _ _ _ _ _ l (q.0, q.1) (key-room _ _ _ _ 0 0 l c.if-size-gt-STRING.false q.2 q.0 q.1)

pub returns : goal.returns
returns c room =
    let a = c.args in
    let q = c.requires in
    let l = sized (content_of a.text.now a.quoted a.start a.end) (Ok c.in_ok-size.size) c.in_ok-size.ensures in
    let f = key-room _ _ _ _ 0 0 l c.if-size-gt-STRING.false q.2 q.0 q.1 in
    key_in _ _ _ _ _ room l c.if-size-gt-STRING.false a.buffer.now c.put_content.result _ f c.put_content.ensures
