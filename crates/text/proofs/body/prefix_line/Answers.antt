-- A prefix line binds its names with the kind of its first word. Assumes nothing.
use mathlib.Core.Path.{refl, ap, ap₂, ◌∙◌}
use mathlib.Core.List.{[]}
use native.Mathlib.Omega.{arith}
use lib.ListN.{take}
use Rattle.text.specs.Reading.{State, prefix_line, kind_of_word, bind_all}
use Rattle.text.specs.Private.Steps.{held}
use Rattle.text.proofs.body.prefix_line.Goals as goal

pub returns : goal.returns
unfolding prefix_line held
returns c = λ gates M z.
    let start : State = record { variables = c.args.c.variables; clauses = c.args.c.clauses; kinds = take c.args.c.bound c.args.kinds.now; names = take c.args.c.bound c.args.names.now; free = []; entries = take c.args.c.entries M; clauses_read = c.args.c.clauses_read; made = c.args.c.made } in
    let bound = c.bind_all-used.ensures.right start refl in
    record {
      sized = record { kinds = c.bind_all-used.ensures.kinds; names = c.bind_all-used.ensures.names; literals = z.literals; unknowns = omega (arith, c.bind_all-used.ensures.room, c.requires.3); entries = z.entries; variables = z.variables; unread = λ _. c.requires.3; made = z.made };
      marked = rw c.requires.3 c.bind_all-used.ensures.marked;
      line = refl;
      free = λ _. refl;
      right = rw c.requires.3 (bound ∙ ap₂ (λ k ws. bind_all k start ws) (c.kind_of-kind.ensures ∙ ap kind_of_word c.next-w.ensures.word) c.next-w.ensures.others);
    }
