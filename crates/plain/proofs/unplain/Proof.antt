-- Right since each test that answers 1 is one of the definition's, and 0 is answered where none of them does.
-- Assumes nothing.
use Rattle.std.proofs.Common.{ap, arith, rules}
use Rattle.plain.specs.Runs.{mark}
use Rattle.plain.proofs.Plains.{byte-holds, far-is-none, first-is-none, second-is-none}
use Rattle.plain.proofs.unplain.Statement.{statement}
use Rattle.plain.proofs.unplain.Tie as tie

returns-4 : tie.Need-returns
unfolding mark
returns-4 c =
    let at_test = c.before.before in
    let a = at_test.before.before.args in
    let w = at_test.before.wrapping_sub_u8.ensures in
    ap mark (byte-holds a.p a.q a.b (record {
      some = omega (arith, w);
      low = omega (arith, w);
      first = c.before.if-b-p.false;
      second = c.if-b-q.false;
    }))

pub unplain_spec : {M : Type 1} → statement M
unplain_spec =
    tie.close
    (tie.spec
    (λ c κs. search rules)  -- wrapping-sub-u8-requires
    (λ c. let a = c.before.before.args in far-is-none a.p a.q a.b (λ h. omega (arith, h, c.before.wrapping_sub_u8.ensures)))  -- returns
    (λ c. first-is-none _ _ _ c.if-b-p.true)  -- returns-2
    (λ c. second-is-none _ _ _ c.if-b-q.true)  -- returns-3
    returns-4)
