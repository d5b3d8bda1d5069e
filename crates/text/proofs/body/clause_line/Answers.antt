-- A clause line adds its entries, unless it is one too many. Assumes nothing.
use mathlib.Core.Path.{refl, sym, ◌∙◌}
use mathlib.Core.Bool.{false≢true}
use native.Mathlib.Omega.{arith}
use borrow.Author.Tests.{lt-ltb, le-ltb}
use native.Mathlib.Numerals.{add-one}
use lib.ListN.{take}
use Rattle.text.specs.Reading.{clause_line, with_entries}
use Rattle.text.specs.Private.Steps.{free_in, held}
use Rattle.text.proofs.BodyLaws.{resized, clause_read_unless}
use Rattle.text.proofs.body.clause_line.Goals as goal

pub returns-then-c : goal.returns-then-c
unfolding clause_line held
returns-then-c c = λ K z. record { sized = resized refl refl refl refl refl refl z; marked = c.requires.5; line = refl; free = λ no. absurd (false≢true no); right = rw (le-ltb c.args.c.clauses_read c.args.c.clauses (omega arith)) refl }

pub returns : goal.returns
unfolding clause_line held
returns c = λ K z.
    let before = held c.args.c K c.args.names.now c.args.literals.now in
    let added = c.add_entries-added.ensures.right before refl refl in
    record {
      sized = record { kinds = z.kinds; names = c.add_entries-added.ensures.names; literals = c.add_entries-added.ensures.entries; unknowns = c.add_entries-added.ensures.places; entries = c.add_entries-added.ensures.room; variables = z.variables; unread = λ none. absurd (omega arith); made = z.made };
      marked = c.add_entries-added.ensures.marked;
      line = refl;
      free = λ no. absurd (false≢true no);
      right = rw (c.add_entries-added.ensures.kept, lt-ltb c.args.c.clauses_read c.args.c.clauses (omega arith), ← added)
          (sym (clause_read_unless c.add_entries-added.result.cause (with_entries before (free_in c.args.c.bound c.add_entries-added.result.free c.add_entries-added.new.names) (take c.add_entries-added.result.count c.add_entries-added.new.literals)) ∙ rw (← add-one c.args.c.clauses_read) refl));
    }
