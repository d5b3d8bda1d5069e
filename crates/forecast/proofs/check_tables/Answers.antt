-- `forecast::check_tables` meets its contract. Assumes nothing.
use native.Mathlib.Omega.{arith}
use mathlib.Core.Path.{◌≡◌, sym, ◌∙◌}
use mathlib.Core.Bool.{true, false}
use lib.Dec.{ltb}
use borrow.Author.Tests.{lt-ltb, le-ltb}
use Rattle.rows.specs.Table.{room, table_fits}
use Rattle.rows.specs.Stray.{stray_rows}
use Rattle.forecast.specs.Outcome.{table_cause}
use Rattle.forecast.proofs.check_tables.Goals as goal

pub returns-then-not-table_fits : goal.returns-then-not-table_fits
unfolding table_cause
returns-then-not-table_fits c =
    let fits_a : table_fits c.args.universal_rows.now ≡ false = sym c.table_fits.ensures ∙ c.if-not-table_fits.true in
    rw fits_a

pub returns-then-not-table_fits-2 : goal.returns-then-not-table_fits-2
unfolding table_cause
returns-then-not-table_fits-2 c =
    let given = c.args in
    let fits_a : table_fits given.universal_rows.now ≡ true = sym c.table_fits.ensures ∙ c.if-not-table_fits.false in
    let fits_s : table_fits given.existential_rows.now ≡ false = sym c.table_fits-2.ensures ∙ c.if-not-table_fits-2.true in
    rw (fits_a, fits_s)

pub returns-then-universal_rows-universal : goal.returns-then-universal_rows-universal
unfolding table_cause
returns-then-universal_rows-universal c =
    let given = c.args in
    let universal_rows = given.universal_rows.now in
    let fits_a : table_fits universal_rows ≡ true = sym c.table_fits.ensures ∙ c.if-not-table_fits.false in
    let fits_s : table_fits given.existential_rows.now ≡ true = sym c.table_fits-2.ensures ∙ c.if-not-table_fits-2.false in
    let in_a : ltb (room universal_rows) given.universal ≡ true = lt-ltb (room universal_rows) given.universal (omega arith) in
    rw (fits_a, fits_s, in_a)

pub returns-then-existential_rows-existential : goal.returns-then-existential_rows-existential
unfolding table_cause
returns-then-existential_rows-existential c =
    let given = c.args in
    let existential_rows = given.existential_rows.now in
    let universal_rows = given.universal_rows.now in
    let fits_a : table_fits universal_rows ≡ true = sym c.table_fits.ensures ∙ c.if-not-table_fits.false in
    let fits_s : table_fits existential_rows ≡ true = sym c.table_fits-2.ensures ∙ c.if-not-table_fits-2.false in
    let in_a : ltb (room universal_rows) given.universal ≡ false = le-ltb (room universal_rows) given.universal (omega arith) in
    let in_s : ltb (room existential_rows) given.existential ≡ true = lt-ltb (room existential_rows) given.existential (omega arith) in
    rw (fits_a, fits_s, in_a, in_s)

pub returns-then-stray_bit : goal.returns-then-stray_bit
unfolding table_cause
returns-then-stray_bit c =
    let given = c.args in
    let existential_rows = given.existential_rows.now in
    let universal = given.universal in
    let universal_rows = given.universal_rows.now in
    let fits_a : table_fits universal_rows ≡ true = sym c.table_fits.ensures ∙ c.if-not-table_fits.false in
    let fits_s : table_fits existential_rows ≡ true = sym c.table_fits-2.ensures ∙ c.if-not-table_fits-2.false in
    let in_a : ltb (room universal_rows) universal ≡ false = le-ltb (room universal_rows) universal (omega arith) in
    let in_s : ltb (room existential_rows) given.existential ≡ false = le-ltb (room existential_rows) given.existential (omega arith) in
    let clean_a : stray_rows given.universals universal universal_rows ≡ true = sym c.stray_bit.ensures ∙ c.if-stray_bit.true in
    rw (fits_a, fits_s, in_a, in_s, clean_a)

pub returns-then-stray_bit-2 : goal.returns-then-stray_bit-2
unfolding table_cause
returns-then-stray_bit-2 c =
    let given = c.args in
    let existential = given.existential in
    let existential_rows = given.existential_rows.now in
    let universal = given.universal in
    let universal_rows = given.universal_rows.now in
    let fits_a : table_fits universal_rows ≡ true = sym c.table_fits.ensures ∙ c.if-not-table_fits.false in
    let fits_s : table_fits existential_rows ≡ true = sym c.table_fits-2.ensures ∙ c.if-not-table_fits-2.false in
    let in_a : ltb (room universal_rows) universal ≡ false = le-ltb (room universal_rows) universal (omega arith) in
    let in_s : ltb (room existential_rows) existential ≡ false = le-ltb (room existential_rows) existential (omega arith) in
    let clean_a : stray_rows given.universals universal universal_rows ≡ false = sym c.stray_bit.ensures ∙ c.if-stray_bit.false in
    let clean_s : stray_rows given.existentials existential existential_rows ≡ true = sym c.stray_bit-2.ensures ∙ c.if-stray_bit-2.true in
    rw (fits_a, fits_s, in_a, in_s, clean_a, clean_s)

pub returns : goal.returns
unfolding table_cause
returns c =
    let given = c.args in
    let existential = given.existential in
    let existential_rows = given.existential_rows.now in
    let universal = given.universal in
    let universal_rows = given.universal_rows.now in
    let fits_a : table_fits universal_rows ≡ true = sym c.table_fits.ensures ∙ c.if-not-table_fits.false in
    let fits_s : table_fits existential_rows ≡ true = sym c.table_fits-2.ensures ∙ c.if-not-table_fits-2.false in
    let in_a : ltb (room universal_rows) universal ≡ false = le-ltb (room universal_rows) universal (omega arith) in
    let in_s : ltb (room existential_rows) existential ≡ false = le-ltb (room existential_rows) existential (omega arith) in
    let clean_a : stray_rows given.universals universal universal_rows ≡ false = sym c.stray_bit.ensures ∙ c.if-stray_bit.false in
    let clean_s : stray_rows given.existentials existential existential_rows ≡ false = sym c.stray_bit-2.ensures ∙ c.if-stray_bit-2.false in
    rw (fits_a, fits_s, in_a, in_s, clean_a, clean_s)
