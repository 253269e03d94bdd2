use Rattle.std.proofs.Common.{◌∙◌, below_more, subst, Bool, length, ap, arith}
use Rattle.std.specs.Bool.{OnFalse}
use Rattle.bl_format.specs.declared.catalogue.MemberEntry.{MemberEntry}
use Rattle.bl_layout.specs.Graph.{KeepsApart, links_of}
use Rattle.bl_layout.proofs.OffsetLemmas.{members_same}
use Rattle.bl_layout.proofs.GraphLemmas.{back_at}
use Rattle.bl_layout.proofs.rings.first_back_among.Goals as goal

pub returns-then-branch : goal.returns-then-branch
returns-then-branch c =
    let cat = c.args.catalogue.now in
    let none : MemberEntry = record { type_number = 0; name_number = 0 } in
    let members = members_same cat c.args.s c.as_slice.result.now c.index-as_slice-s.result c.as_slice-members.result.now c.requires.place c.as_slice.ensures c.as_slice-members.ensures in
    record {
      before = c.loop-k.invariant.none;
      at = λ small. back_at cat c.args.s c.loop-k.k c.as_slice-members.result.now none c.in_ok-member_leads_back.field-0 members c.loop-k-test.true c.in_ok-member_leads_back.ensures.answer ∙ c.if-branch.true;
      within = omega (arith, c.loop-k-test.true, ap length members);
    }

pub loop-k-preserved : goal.loop-k-preserved
loop-k-preserved c =
    let cat = c.args.catalogue.now in
    let none : MemberEntry = record { type_number = 0; name_number = 0 } in
    let members = members_same cat c.args.s c.as_slice.result.now c.index-as_slice-s.result c.as_slice-members.result.now c.requires.place c.as_slice.ensures c.as_slice-members.ensures in
    record {
      apart = subst (λ (b : Bool). OnFalse b (KeepsApart (links_of c.args.check_tables.now.inner.items) c.member_leads_back.new.marks c.args.s)) c.if-branch.false c.in_ok-member_leads_back.ensures.apart;
      none = below_more _ _ c.loop-k.invariant.none
          (back_at cat c.args.s c.loop-k.k c.as_slice-members.result.now none c.in_ok-member_leads_back.field-0 members c.loop-k-test.true c.in_ok-member_leads_back.ensures.answer ∙ c.if-branch.false);
    }
