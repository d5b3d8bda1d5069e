-- `season::records::find_spaces` meets its contract: the pieces are found one by one. Assumes nothing.
use Prim.Native.Nat.{◌+◌, ◌<◌}
use native.Mathlib.Omega.{arith}
use lib.ListN.{length}
use Rattle.season.proofs.RecordLaws.{found_within, parted_none, parted_once, parted, parted_on}
use Rattle.season.proofs.records.find_spaces.Goals as goal

pub returns-then-first-line : goal.returns-then-first-line
returns-then-first-line c = parted_none c.args.line.now c.find-first.result c.find-first.ensures c.if-first-line.true

pub overflow_add-first : goal.overflow_add-first
overflow_add-first c = omega (arith, found_within 32 c.args.line.now 0 (omega arith))

pub returns-then-second-line : goal.returns-then-second-line
returns-then-second-line c =
    let find_call = c.find-first in
    let line = c.args.line.now in
    parted_once line find_call.result find_call.ensures c.find-second.result c.find-second.ensures
    (omega (arith, found_within 32 line 0 (omega arith))) c.if-second-line.true

pub overflow_add-second : goal.overflow_add-second
overflow_add-second c =
    let find_call = c.find-first in
    let line = c.args.line.now in
    let inside : find_call.result < length line = omega (arith, found_within 32 line 0 (omega arith)) in
    omega (arith, found_within 32 line (find_call.result + 1) (omega arith))

pub returns-then-end-line : goal.returns-then-end-line
returns-then-end-line c =
    let find2_call = c.find-second in
    let find_call = c.find-first in
    let line = c.args.line.now in
    let first : find_call.result < length line = omega (arith, found_within 32 line 0 (omega arith)) in
    let second : find2_call.result < length line = omega (arith, found_within 32 line (find_call.result + 1) (omega arith)) in
    parted line find_call.result find_call.ensures find2_call.result find2_call.ensures first c.find-end.result c.find-end.ensures second c.if-end-line.true

pub returns : goal.returns
returns c =
    let find2_call = c.find-second in
    let find_call = c.find-first in
    let line = c.args.line.now in
    let first : find_call.result < length line = omega (arith, found_within 32 line 0 (omega arith)) in
    let second : find2_call.result < length line = omega (arith, found_within 32 line (find_call.result + 1) (omega arith)) in
    let third : c.find-end.result < length line = omega (arith, found_within 32 line (find2_call.result + 1) (omega arith)) in
    parted_on line find_call.result find_call.ensures find2_call.result find2_call.ensures first c.find-end.result c.find-end.ensures second third
