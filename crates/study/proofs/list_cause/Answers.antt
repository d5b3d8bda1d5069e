-- `study::list_cause` meets its contract. Assumes nothing.
use Rattle.std.proofs.Common.{rules}
use mathlib.Core.Path.{refl, sym, ◌∙◌}
use Prim.Native.Nat.{◌%◌}
use lib.ListN.{length}
use borrow.Author.Tests.{eq-eqb, ne_eqb, lt-ltb, le-ltb}
use Rattle.study.specs.Study.{settings_of, unknown, no_round}
use Rattle.study.proofs.SettingLaws.{any_told}
use Rattle.study.proofs.CauseLaws.{by_list_tests}
use Rattle.study.proofs.list_cause.Goals as goal

pub returns-then-is_empty : goal.returns-then-is_empty
returns-then-is_empty c = sym (by_list_tests c.args.settings.now (sym c.is_empty.ensures ∙ c.if-is_empty.true) refl refl refl refl)

pub returns-then-settings-gt-ENTRIES : goal.returns-then-settings-gt-ENTRIES
returns-then-settings-gt-ENTRIES c =
    let l = c.args.settings.now in
    sym (by_list_tests l (sym c.is_empty.ensures ∙ c.if-is_empty.false) (lt-ltb 32 (length l) c.if-settings-gt-ENTRIES.true) refl refl refl)

pub returns-then-settings-ne0 : goal.returns-then-settings-ne0
returns-then-settings-ne0 c =
    let l = c.args.settings.now in
    sym (by_list_tests l (sym c.is_empty.ensures ∙ c.if-is_empty.false) (le-ltb 32 (length l) c.if-settings-gt-ENTRIES.false) (ne_eqb (length l % 4) 0 c.if-settings-ne0.true) refl refl)

pub returns-then-any_setting : goal.returns-then-any_setting
returns-then-any_setting c =
    let l = c.args.settings.now in
    let unknown_one = any_told _ unknown (λ s b told. search rules) (settings_of l) c.any_setting.result c.any_setting.ensures ∙ c.if-any_setting.true in
    sym (by_list_tests l (sym c.is_empty.ensures ∙ c.if-is_empty.false) (le-ltb 32 (length l) c.if-settings-gt-ENTRIES.false) (eq-eqb (length l % 4) 0 c.if-settings-ne0.false) unknown_one refl)

pub returns-then-any_setting-2 : goal.returns-then-any_setting-2
returns-then-any_setting-2 c =
    let l = c.args.settings.now in
    let all_known = any_told _ unknown (λ s b told. search rules) (settings_of l) c.any_setting.result c.any_setting.ensures ∙ c.if-any_setting.false in
    let without = any_told _ no_round (λ s b told. search rules) (settings_of l) c.any_setting-2.result c.any_setting-2.ensures ∙ c.if-any_setting-2.true in
    sym (by_list_tests l (sym c.is_empty.ensures ∙ c.if-is_empty.false) (le-ltb 32 (length l) c.if-settings-gt-ENTRIES.false) (eq-eqb (length l % 4) 0 c.if-settings-ne0.false) all_known without)

pub returns : goal.returns
returns c =
    let l = c.args.settings.now in
    let all_known = any_told _ unknown (λ s b told. search rules) (settings_of l) c.any_setting.result c.any_setting.ensures ∙ c.if-any_setting.false in
    let with_rounds = any_told _ no_round (λ s b told. search rules) (settings_of l) c.any_setting-2.result c.any_setting-2.ensures ∙ c.if-any_setting-2.false in
    sym (by_list_tests l (sym c.is_empty.ensures ∙ c.if-is_empty.false) (le-ltb 32 (length l) c.if-settings-gt-ENTRIES.false) (eq-eqb (length l % 4) 0 c.if-settings-ne0.false) all_known with_rounds)
