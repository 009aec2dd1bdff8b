-- The lines that 01 prints for S12, worked out from the definitions. Assumes nothing.
use mathlib.Core.Path.{◌≡◌, refl}
use mathlib.Core.List.{List, [], ◌∷◌}
use Prim.Native.Nat.{ℕ}
use Rattle.octets.specs.Begins.{fit}
use Rattle.octets.specs.Numbers.{number_from}
use Rattle.macm.specs.Check.{shape_of, shape_by, shape_as, form_of}
use Rattle.macm.specs.Read.{claimed_head, head_by, header_of}
use Rattle.text.specs.Word.{word}
use Rattle.text.specs.Digits.{digits, needed}
use Rattle.lines.specs.Listing.{line_text, end_text}

-- A
abbrev new : List ℕ
new = 0x4D ∷ 0x41 ∷ 0x43 ∷ 0x32 ∷ 0x00 ∷ 0x00 ∷ 0x00 ∷ 0x0E ∷ 0xA0 ∷ 0x0C ∷ 0x90 ∷ 0x40 ∷ 0x7C ∷ 0x10 ∷ 0x00 ∷ 0x1E ∷ []

pub message : line_text 3 new ≡ word "3 16 v2 0 245370000\n"
unfolding digits needed fit number_from claimed_head head_by header_of shape_of shape_by shape_as form_of
message = refl

pub end : end_text 19 1 3 ≡ word "end 19 messages 1 gap 3\n"
unfolding digits needed
end = refl
