-- `run::finds` meets its contract. Assumes nothing.
use Rattle.std.specs.Prelude.{Ok}
use Rattle.engine.specs.Private.Growing.{is_found}
use mathlib.Core.Path.{sym, ap, ◌∙◌}
use Rattle.engine.proofs.run.finds.Goals as goal

pub returns-in-Ok-Found : goal.returns-in-Ok-Found
returns-in-Ok-Found c =
    let first_model_over_call = c.first_model_over in record {
      over = λ literals of led. ap is_found (ap Ok (sym c.in-Ok-Found.field-0-is) ∙ sym c.in-Ok-Found.is ∙
          (first_model_over_call.ensures.prepared literals of led).returned);
      over_2 = λ literals of led. (first_model_over_call.ensures.prepared literals of led).area;
    }

pub returns-in-Ok-NoModel : goal.returns-in-Ok-NoModel
returns-in-Ok-NoModel c =
    let first_model_over_call = c.first_model_over in record {
      over = λ literals of led. ap is_found (ap Ok (sym c.in-Ok-NoModel.field-0-is) ∙ sym c.in-Ok-NoModel.is ∙
          (first_model_over_call.ensures.prepared literals of led).returned);
      over_2 = λ literals of led. (first_model_over_call.ensures.prepared literals of led).area;
    }

pub returns-in-Err : goal.returns-in-Err
returns-in-Err c =
    let first_model_over_call = c.first_model_over in record {
      over = λ literals of led. ap is_found (sym c.in-Err.is ∙ (first_model_over_call.ensures.prepared literals of led).returned);
      over_2 = λ literals of led. (first_model_over_call.ensures.prepared literals of led).area;
    }
