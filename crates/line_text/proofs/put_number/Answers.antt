-- `line_text::put_number` meets its contract: the digits are the numeral, and the byte stands behind them.
-- Assumes nothing.
use Rattle.std.proofs.Common.{◌≡◌, ap, ◌∙◌, ◌∷◌, [], ◌++◌, List, ℕ, arith, append_assoc, take}
use Rattle.std.proofs.lemmas.Grind.{common_steps}
use Rattle.line_text.specs.Text.{numeral}
use Rattle.line_text.proofs.Numerals.{decimal_numeral}
use Rattle.line_text.proofs.put_number.Goals as goal

pub returns-clause-text_after : goal.returns-clause-text_after
returns-clause-text_after c =
    let made = c.decimal-count in
    let text : take made.result made.new.out ≡ numeral c.args.number = made.ensures.digits ∙ decimal_numeral c.args.number made.result made.ensures.len in
    let put : c.try_extend_from_slice.new.self.items ≡ c.args.line.now.items ++ numeral c.args.number = grind (arith, common_steps) in
    c.push.ensures.items ∙ ap (λ (z : List ℕ). z ++ (c.args.after ∷ [])) put ∙ append_assoc c.args.line.now.items (numeral c.args.number) (c.args.after ∷ [])
