-- The library's digits are those of the definitions, ten of a word at the most.
use Rattle.std.proofs.Common.{◌≤◌, length, ◌∙◌, arith}
use Rattle.lines.proofs.Digits.{digits_decimal, ten_digits}
use Rattle.lines.proofs.text.push_field.Goals as goal

pub returns-clause-bytes : goal.returns-clause-bytes
returns-clause-bytes c =
    c.push_str-2.ensures.bytes ∙ rw (c.push_str.ensures.bytes, c.format.ensures.text, digits_decimal _ c.ranges.n.fits)

pub returns-clause-word : goal.returns-clause-word
returns-clause-word c h =
    let ten : length c.format.result.now ≤ 10 = rw c.format.ensures.text (ten_digits _ h) in
    omega (arith, c.push_str.ensures.len, c.push_str-2.ensures.len, ten)
