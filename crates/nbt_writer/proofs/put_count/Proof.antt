-- Right since the order of the form that is written is what `is_pocket` tells of it.
-- Assumes nothing.
use borrow.Author.Rules.{rules}
use mathlib.Core.Path.{ap, ◌∙◌}
use lib.Dec.{eqb}
use Rattle.form.specs.Form.{order_in}
use Rattle.form.specs.Numbers.{bytes_in}
use Rattle.form.specs.Spans.{over}
use Rattle.nbt_writer.proofs.put_count.Statement.{statement}
use Rattle.nbt_writer.proofs.put_count.Tie as tie

returns : tie.Need-returns
returns c =
    let a = c.args in
    c.put_in.ensures
    ∙ ap (λ little. over a.out.now a.at (bytes_in (order_in little) a.width a.v)) (c.is_pocket.ensures ∙ ap (λ n. eqb n 2) c.target.ensures)

pub put_count_spec : {M : Type 1} → statement M
put_count_spec = tie.close (tie.spec (λ c κs. search rules) (λ c κs. search rules) (λ c κs. search rules) (λ c. search rules) returns)
