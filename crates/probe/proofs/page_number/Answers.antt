-- Assumes nothing.
use Rattle.std.proofs.Common.{rules, ne_eqb}
use Rattle.probe.specs.Numbers.{season_number}
use Rattle.probe.proofs.page_number.Goals as goal

pub returns-in-1 : goal.returns-in-1
unfolding season_number
returns-in-1 c = rw (c.in-Ok.is, c.in-1.is)

pub returns-in-2 : goal.returns-in-2
unfolding season_number
returns-in-2 c = rw (c.in-Ok.is, c.in-2.is)

pub returns-in-3 : goal.returns-in-3
unfolding season_number
returns-in-3 c = rw (c.in-Ok.is, c.in-3.is)

pub returns-in-4 : goal.returns-in-4
unfolding season_number
returns-in-4 c = rw (c.in-Ok.is, c.in-4.is)

pub returns-in-5 : goal.returns-in-5
unfolding season_number
returns-in-5 c = rw (c.in-Ok.is, c.in-5.is)

pub returns-in-6 : goal.returns-in-6
unfolding season_number
returns-in-6 c = rw (c.in-Ok.is, c.in-6.is)

pub returns-in-7 : goal.returns-in-7
unfolding season_number
returns-in-7 c = rw (c.in-Ok.is, c.in-7.is)

pub returns-in-8 : goal.returns-in-8
unfolding season_number
returns-in-8 c = rw (c.in-Ok.is, c.in-8.is)

pub returns-in-9 : goal.returns-in-9
unfolding season_number
returns-in-9 c = rw (c.in-Ok.is, c.in-9.is)

pub returns-in-10 : goal.returns-in-10
unfolding season_number
returns-in-10 c = rw (c.in-Ok.is, c.in-10.is)

pub returns-in_default : goal.returns-in_default
unfolding season_number
returns-in_default c =
    let w = c.args.which in
    rw (
      c.in-Ok.is,
      ne_eqb w 1 (λ q. search rules),
      ne_eqb w 2 (λ q. search rules),
      ne_eqb w 3 (λ q. search rules),
      ne_eqb w 4 (λ q. search rules),
      ne_eqb w 5 (λ q. search rules),
      ne_eqb w 6 (λ q. search rules),
      ne_eqb w 7 (λ q. search rules),
      ne_eqb w 8 (λ q. search rules),
      ne_eqb w 9 (λ q. search rules),
      ne_eqb w 10 (λ q. search rules),
    )
