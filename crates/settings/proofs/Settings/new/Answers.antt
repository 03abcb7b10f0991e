-- `settings::Settings::new` meets its contract: the first setting that is out of range refuses. Assumes nothing.
use mathlib.Core.Path.{refl, ◌∙◌}
use Rattle.words.proofs.Lists.{told_none, told_some}
use Rattle.settings.proofs.Laws.{refused_b, refused_m, refused_s, refused_a, refused_t, made_all, made_of}
use Rattle.settings.proofs.Settings.new.Goals as goal

pub returns-in_err-new : goal.returns-in_err-new
returns-in_err-new c = c.from_residual.ensures ∙ refused_b _ _ _ _ _ (told_none _ _ _ c.in_err-new.ensures refl)

pub returns-in_err-new-2 : goal.returns-in_err-new-2
returns-in_err-new-2 c = c.from_residual-in_err-new-2.ensures ∙ refused_m _ _ _ _ _ (told_some _ _ _ c.in_ok-new.ensures _ refl).0 (told_none _ _ _ c.in_err-new-2.ensures refl)

pub returns-in_err-new-3 : goal.returns-in_err-new-3
returns-in_err-new-3 c =
    c.from_residual-in_err-new-3.ensures
    ∙ refused_s _ _ _ _ _ (told_some _ _ _ c.in_ok-new.ensures _ refl).0 (told_some _ _ _ c.in_ok-new-2.ensures _ refl).0 (told_none _ _ _ c.in_err-new-3.ensures refl)

pub returns-in_err-new-4 : goal.returns-in_err-new-4
returns-in_err-new-4 c =
    c.from_residual-in_err-new-4.ensures
    ∙ refused_a _ _ _ _ _ (told_some _ _ _ c.in_ok-new.ensures _ refl).0 (told_some _ _ _ c.in_ok-new-2.ensures _ refl).0 (told_some _ _ _ c.in_ok-new-3.ensures _ refl).0 (told_none _ _ _ c.in_err-new-4.ensures refl)

pub returns-in_err-new-5 : goal.returns-in_err-new-5
returns-in_err-new-5 c =
    c.from_residual-in_err-new-5.ensures
    ∙ refused_t _ _ _ _ _ (told_some _ _ _ c.in_ok-new.ensures _ refl).0 (told_some _ _ _ c.in_ok-new-2.ensures _ refl).0 (told_some _ _ _ c.in_ok-new-3.ensures _ refl).0 (told_some _ _ _ c.in_ok-new-4.ensures _ refl).0 (told_none _ _ _ c.in_err-new-5.ensures refl)

pub returns : goal.returns
returns c =
    let m0 = told_some _ _ _ c.in_ok-new.ensures _ refl in
    let m1 = told_some _ _ _ c.in_ok-new-2.ensures _ refl in
    let m2 = told_some _ _ _ c.in_ok-new-3.ensures _ refl in
    let m3 = told_some _ _ _ c.in_ok-new-4.ensures _ refl in
    let m4 = told_some _ _ _ c.in_ok-new-5.ensures _ refl in
    made_of m0.1 m1.1 m2.1 m3.1 m4.1 (made_all _ _ _ _ _ m0.0 m1.0 m2.0 m3.0 m4.0)
