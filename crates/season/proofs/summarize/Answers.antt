-- Each turn adds one record; what the numbers mean is `Folding.antt`'s. Assumes nothing.
use Rattle.std.proofs.Common.{arith, ◌≡◌, ◌<◌, drop, sym, ap, subst, ◌∙◌, drop_of_length-le, ◌+◌, ◌^◌, add-one, drop-cons, length, get_or}
use Rattle.season.specs.Private.Tally.{Room, fresh, closed}
use Rattle.season.specs.declared.Study.{Study}
use Rattle.season.specs.declared.tally.Tally.{Tally}
use Rattle.season.proofs.Folding.{fold, with_study, fold_summary, room_added}
use Rattle.season.proofs.SummaryLaws.{summarized}
use Rattle.season.proofs.summarize.Goals as goal

-- what stands for an element past the end
abbrev no_study : Study
no_study = record { answer = 0; rounds = 0; fee = 0 }

pub loop-s-preserved : goal.loop-s-preserved
loop-s-preserved c =
    let ys = c.args.studies.now in
    let i = c.loop-s.s-index in
    let s = get_or ys i no_study in
    let hr : s.rounds < 2 ^ 32 = omega arith in
    let hf : s.fee < 2 ^ 32 = omega arith in
    let on : fold (with_study c.loop-s.t s) (drop (i + 1) ys) ≡ fold c.loop-s.t (drop i ys) =
    rw (add-one, drop-cons ys i no_study c.loop-s-test.true) in
    record {
      same = ap (λ (t : Tally). fold t (drop (i + 1) ys)) c.add-t.ensures ∙ on ∙ c.loop-s.invariant.same;
      room = subst Room (sym c.add-t.ensures) (room_added c.loop-s.t s.answer s.rounds s.fee c.loop-s.invariant.room hr hf);
    }

pub returns : goal.returns
returns c =
    let none : c.loop-s.t ≡ fold fresh c.args.studies.now =
    ap (fold c.loop-s.t) (sym (drop_of_length-le c.args.studies.now {i = c.loop-s.s-index} (omega arith))) ∙ c.loop-s.invariant.same in
    summarized c.args.studies.now c.close.result
    (c.close.ensures ∙ ap (λ (t : Tally). closed t (length c.args.studies.now)) none ∙ fold_summary c.args.studies.now)
