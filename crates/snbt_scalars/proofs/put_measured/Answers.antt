-- `put_measured` meets its contract: its content is the definition's, then kind and room are asked, then length and content are put.
-- Assumes nothing.
use Rattle.std.proofs.Common.{◌+◌, length, refl, sym, subst, arith}
use Rattle.std.specs.Prelude.{Ok, Err}
use Rattle.std.proofs.lemmas.Result.{err_from_is_err_and}
use Rattle.snbt_form.specs.Lexing.{content_of}
use Rattle.snbt_contents.specs.Puts.{PutIs}
use Rattle.snbt_contents.proofs.Fitted.{sized}
use Rattle.snbt_scalars.proofs.Placing.{admitted-room, string-refused, string-long, string-barred, string-did}
use Rattle.snbt_scalars.proofs.put_measured.Goals as goal

pub returns-in_err-size : goal.returns-in_err-size
returns-in_err-size c =
    let a = c.args in
    let t = a.target in
    let p = err_from_is_err_and c.from_residual.result c.from_residual.ensures.1 in
    rw (p.1, p.2) (
      string-refused a.text.now a.quoted a.start a.end t.want t.index.0 t.next t.at a.out.now
          (sized (content_of a.text.now a.quoted a.start a.end) (Err c.in_err-size.field-0.0) c.in_err-size.ensures),
      refl,
    )

-- Over 65,535 bytes.
pub returns-then-size-gt-STRING : goal.returns-then-size-gt-STRING
returns-then-size-gt-STRING c =
    let a = c.args in
    let t = a.target in
    let m = sized (content_of a.text.now a.quoted a.start a.end) (Ok c.in_ok-size.size) c.in_ok-size.ensures in
    (string-long a.text.now a.quoted a.start a.end t.want t.index.0 t.next t.at a.out.now m c.if-size-gt-STRING.true, refl)

-- Its kind or its room refuses it.
pub returns-in_err-admitted : goal.returns-in_err-admitted
returns-in_err-admitted c =
    let a = c.args in
    let t = a.target in
    let m = sized (content_of a.text.now a.quoted a.start a.end) (Ok c.in_ok-size.size) c.in_ok-size.ensures in
    let p = err_from_is_err_and c.from_residual-in_err-admitted.result c.from_residual-in_err-admitted.ensures.1 in
    rw (p.1, p.2)
    (string-barred a.text.now a.quoted a.start a.end t.want t.index.0 t.next t.at a.out.now m c.if-size-gt-STRING.false (sym c.in_err-admitted.ensures), refl)

pub put_number-requires : goal.put_number-requires
put_number-requires c =
    let a = c.args in
    let t = a.target in
    let room = admitted-room t.want 8 (length a.out.now) t.at (2 + c.in_ok-size.size) t.index.0 (sym c.in_ok-admitted.ensures) in
    (omega arith, omega (arith, room))

pub overflow_add-at : goal.overflow_add-at
overflow_add-at c =
    let a = c.args in
    let t = a.target in
    let room = admitted-room t.want 8 (length a.out.now) t.at (2 + c.in_ok-size.size) t.index.0 (sym c.in_ok-admitted.ensures) in
    omega (arith, room)

pub put_content-used-requires : goal.put_content-used-requires
put_content-used-requires c =
    let a = c.args in
    let t = a.target in
    let m = sized (content_of a.text.now a.quoted a.start a.end) (Ok c.in_ok-size.size) c.in_ok-size.ensures in
    let room = admitted-room t.want 8 (length a.out.now) t.at (2 + c.in_ok-size.size) t.index.0 (sym c.in_ok-admitted.ensures) in
    record { bytes = m.bytes; is = m.is; within = c.requires; fits = omega (arith, room, c.put_number.auto.d, m.size) }

pub returns : goal.returns
returns c =
    let a = c.args in
    let t = a.target in
    let m = sized (content_of a.text.now a.quoted a.start a.end) (Ok c.in_ok-size.size) c.in_ok-size.ensures in
    let put = c.put_number in
    let r = c.put_content-used in
    string-did a.text.now a.quoted a.start a.end t.want t.index.0 t.next t.at a.out.now m c.if-size-gt-STRING.false (sym c.in_ok-admitted.ensures)
    put.new.d r.new.out r.result put.ensures (subst (λ x. PutIs x put.new.d (t.at + 2) r.result r.new.out) m.is r.ensures)
