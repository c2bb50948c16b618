-- The claim of rule 7, from the laws of form.
-- Assumes nothing.
use Rattle.form.proofs.Rows.{rows-iff}
use Rattle.demands.specs.Tables.{IsRowByRow}

pub row-by-row : IsRowByRow
row-by-row = rows-iff
