-- EACH CONTRACT OF THE DOOR DETERMINES ITS OUTCOME. Assumes nothing.
use mathlib.Core.Path.{sym, ◌∙◌}
use Rattle.mail.specs.Determined.{Determined}

pub determined : Determined
determined =
    record {
      set_up = λ b m s a t table memory x y k l e f. (e.0 ∙ sym f.0, e.1 ∙ sym f.1);
      send = λ memory source destination body x y k l e f. (e.0 ∙ sym f.0, e.1 ∙ sym f.1);
      receive = λ memory destination source out x y k l p q e f. (e.0 ∙ sym f.0, e.1 ∙ sym f.1, e.2 ∙ sym f.2);
      turn = λ memory x y k l e f. (e.0 ∙ sym f.0, e.1 ∙ sym f.1);
      list = λ memory out x y k l e f. (e.0 ∙ sym f.0, e.1 ∙ sym f.1);
    }
