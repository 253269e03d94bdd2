-- Where no struct's new length passes what a catalogue can write, a catalogue at another width is one that a payload
-- can have.
use Rattle.std.proofs.Common.{◌≡◌, ℕ, ◌^◌, ◌≤◌, ◌<◌, Bool, true, false, cond, All, List, length, get_or, Option, Some, None, refl, sym, subst, arith, ltb-false}
use Rattle.std.specs.Prelude.{nat_lt}
use Rattle.bl_num.specs.declared.number.Width.{Width}
use Rattle.bl_format.specs.declared.catalogue.Catalogue.{Catalogue}
use Rattle.bl_format.specs.declared.catalogue.StructEntry.{StructEntry}
use Rattle.bl_format.specs.declared.catalogue.MemberEntry.{MemberEntry}
use Rattle.bl_format.specs.declared.layout.LayoutFault.{LayoutFault}
use Rattle.bl_format.specs.declared.layout.LayoutFault.TheVariants.{TooLong}
use Rattle.bl_format.specs.Limits.{longest_type}
use Rattle.bl_format.specs.Schema.{MemberFits, StructFits, IsCatalogue}
use Rattle.bl_format.specs.Layout.{struct_of_type}
use Rattle.bl_format.specs.Rewidth.{new_length, type_length, rewidth, rewidth_fault}
use Rattle.bl_format.proofs.MemberPasses.{none_below, is_struct_of}
use Rattle.bl_format.proofs.RewidthKeeps.{type_at, rewidth-structs, rewidth-names, rewidth-type_count}

not_long : (long : Bool) (fault : LayoutFault) → cond long (Some fault) None ≡ None → long ≡ false
not_long true fault e = absurd (cc)
not_long false fault e = refl

-- each new length is one that a catalogue can write
pub new_length-le : (c : Catalogue) (from to : Width) (s : ℕ) → rewidth_fault c from to ≡ None → s < length c.structs
    → new_length c from to s ≤ longest_type
unfolding rewidth_fault
new_length-le c from to s e lt =
    let n : ℕ = new_length c from to s in
    ltb-false longest_type n (not_long (nat_lt longest_type n) (TooLong n) (none_below (λ t. cond (nat_lt longest_type (new_length c from to t)) (Some (TooLong (new_length c from to t))) None) (length c.structs) s e lt))

type_fits : (c : Catalogue) (from to : Width) (t old : ℕ) → rewidth_fault c from to ≡ None → old < 2 ^ 16
    → type_length c from to (struct_of_type c t) old < 2 ^ 16
type_fits c from to t old e fits = go (struct_of_type c t) refl
  where
    go : (o : Option ℕ) → struct_of_type c t ≡ o → type_length c from to o old < 2 ^ 16
    go None is = fits
    go (Some s) is = omega (arith, new_length-le c from to s e (is_struct_of c t s is).within)

member_fits : (c : Catalogue) (from to : Width) (m : MemberEntry) → MemberFits c m → MemberFits (rewidth c from to) m
member_fits c from to m h = record {
  type_number = omega (arith, h.type_number, rewidth-type_count c from to);
  name_number = rw (rewidth-names c from to) h.name_number;
  type_number_fits = h.type_number_fits;
  name_number_fits = h.name_number_fits;
}

struct_fits : (c : Catalogue) (from to : Width) (s : StructEntry) → StructFits c s → StructFits (rewidth c from to) s
struct_fits c from to s h = record {
  type_number = omega (arith, h.type_number, rewidth-type_count c from to);
  type_number_fits = h.type_number_fits;
  few_members = h.few_members;
  members = λ k d lt. member_fits c from to (get_or s.members k d) (h.members k d lt);
}

-- a catalogue that a payload can have is one at another width too, unless a struct is too long there
pub rewidth-IsCatalogue : (c : Catalogue) (from to : Width) → IsCatalogue c → rewidth_fault c from to ≡ None
    → IsCatalogue (rewidth c from to)
rewidth-IsCatalogue c from to is e =
    let count : length (rewidth c from to).types ≡ length c.types = rewidth-type_count c from to in
    record {
      few_names = rw (rewidth-names c from to) is.few_names;
      few_types = rw count is.few_types;
      few_structs = rw (rewidth-structs c from to) is.few_structs;
      names = rw (rewidth-names c from to) is.names;
      type_names = λ k d lt. (let within : k < length c.types = rw count at lt in rw (type_at c from to k d within) (is.type_names k d within));
      type_names_differ = λ i j d lt within. (
          let below : j < length c.types = rw count at within in
          let first : i < length c.types = omega arith in
          rw (type_at c from to i d first, type_at c from to j d below) (is.type_names_differ i j d lt below));
      lengths_fit = λ k d lt. (let within : k < length c.types = rw count at lt in rw (type_at c from to k d within) (type_fits c from to k (get_or c.types k d).length e (is.lengths_fit k d within)));
      structs = subst (λ (xs : List StructEntry). All (StructFits (rewidth c from to)) xs) (sym (rewidth-structs c from to)) (λ k d lt. struct_fits c from to (get_or c.structs k d) (is.structs k d lt));
      struct_types_differ = rw (rewidth-structs c from to) is.struct_types_differ;
    }
