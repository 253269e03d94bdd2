-- What holds of a header that is read: its version is one of those that are read, and its bytes are there.
use Rattle.std.proofs.Common.{◌≡◌, ◌≤◌, ℕ, Bool, true, false, ◌||◌, cond, not, List, length, Option, Some, None, Result, Ok, Err, refl, ap, arith}
use Rattle.std.specs.Prelude.{nat_lt, codes, take, slice_index, ◌==◌, if◌then◌else◌}
use Rattle.std.specs.Str.{bytes_eq}
use Rattle.std.proofs.lemmas.Bool.{ltb-false, or_parts}
use Rattle.bl_format.specs.declared.file.Header.{Header}
use Rattle.bl_format.specs.declared.file.HeadFault.{HeadFault}
use Rattle.bl_num.specs.declared.number.Order.TheVariants.{Little, Big}
use Rattle.bl_num.specs.declared.number.Width.TheVariants.{Four, Eight}
use Rattle.bl_format.specs.declared.file.HeadFault.TheVariants.{Compressed, BadMagic, BadVersion}
use Rattle.bl_format.specs.Words.{part}
use Rattle.bl_format.specs.Limits.{first_version, last_version}
use Rattle.bl_format.specs.Blocks.{header_of, header_size, classic_header_size, digits_value, width_mark, order_mark, is_compressed, bad_mark, unless_bad_mark, marked_header}

-- a header was read, so a check before it didn't fail
passed : (failed : Bool) (fault : HeadFault) (rest : Result Header HeadFault) (h : Header) → cond failed (Err fault) rest ≡ Ok h → (failed ≡ false) × (rest ≡ Ok h)
passed true fault rest h is = cc
passed false fault rest h is = (refl, is)

unmarked : (mark : Option ℕ) (rest : Result Header HeadFault) (h : Header) → unless_bad_mark mark rest ≡ Ok h → rest ≡ Ok h
unmarked (Some at) rest h is = cc
unmarked None rest h is = is

version_of : Result Header HeadFault → ℕ
version_of (Ok h) = h.version
version_of (Err fault) = 0

pub record IsRead (b : List ℕ) (h : Header) : Type 0 where
  pub oldest : first_version ≤ h.version
  pub newest : h.version ≤ last_version
  pub whole : header_size h ≤ length b

pub header_facts : (b : List ℕ) (h : Header) → header_of b ≡ Ok h → IsRead b h
unfolding header_of version_of
header_facts b h is =
    let v : ℕ = digits_value (part b 9 3) in
    let short : Bool = nat_lt (length b) classic_header_size in
    let other : Bool = not (bytes_eq (take 7 b) (codes "BLENDER")) in
    let found : Result Header HeadFault = Ok (record {
      width = if slice_index b 7 == width_mark Four then Four else Eight;
      order = if slice_index b 8 == order_mark Little then Little else Big;
      version = v;
    }) in
    let marks : Result Header HeadFault = unless_bad_mark (bad_mark b) (marked_header b) in
    let plain = passed (is_compressed b) Compressed (cond (short || other) (Err BadMagic) marks) h is in
    let begins = passed (short || other) BadMagic marks h plain.1 in
    let marked = unmarked (bad_mark b) (marked_header b) h begins.1 in
    let versioned = passed (nat_lt v first_version || nat_lt last_version v) (BadVersion v) found h marked in
    let long : short ≡ false = (or_parts short other begins.0).0 in
    let bounds = or_parts (nat_lt v first_version) (nat_lt last_version v) versioned.0 in
    let same : v ≡ h.version = ap version_of versioned.1 in
    record {
      oldest = omega (arith, ltb-false v first_version bounds.0, same);
      newest = omega (arith, ltb-false last_version v bounds.1, same);
      whole = ltb-false (length b) classic_header_size long;
    }
