use Rattle.std.proofs.Common.{◌≡◌, ℕ, List, ◌++◌, length, codes, Ok, append_assoc, sym, subst, rules}
use Rattle.std.proofs.lemmas.Bool.{false_from_ne_true}
use Rattle.std.proofs.lemmas.Slice.Eq.{bytes_eq-Decides}
use Rattle.bl_num.specs.Numbers.{bytes_of, pointer_bytes}
use Rattle.bl_format.specs.declared.file.Header.{Header}
use Rattle.bl_format.specs.declared.file.Head.{Head}
use Rattle.bl_format.specs.declared.file.Step.TheVariants.{Block}
use Rattle.bl_format.specs.Blocks.{head_written, code_written, step_in}
use Rattle.bl_format.proofs.StepBack.{step_back, moved}
use Rattle.bl_blocks.proofs.head.write_head.Goals as goal

joined : (h : Header) (x : Head) (p q r s t : List ℕ) → p ≡ code_written h.order x.code → q ≡ bytes_of h.order 4 x.len → r ≡ bytes_of h.order (pointer_bytes h.width) x.address → s ≡ bytes_of h.order 4 x.index → t ≡ bytes_of h.order 4 x.count → p ++ (q ++ (r ++ (s ++ t))) ≡ head_written h x
unfolding head_written
joined h x p q r s t code len address index count = rw (code, len, address, index, count) (simp append_assoc)

pub returns-clause-written : goal.returns-clause-written
returns-clause-written c = joined c.args.header.now c.args.head.now c.copy_from_slice.new.self c.write_whole.new.dst c.write_whole-2.new.dst c.write_whole-3.new.dst c.write_whole-4.new.dst (search rules) (search rules) (search rules) (search rules) (search rules)

pub returns-clause-reads_back : goal.returns-clause-reads_back
returns-clause-reads_back c no_end at size rest inside =
    let h = c.args.header.now in
    let x = c.args.head.now in
    let size_of_code : length x.code ≡ 4 = search rules in
    let differs = false_from_ne_true _ (λ same. no_end ((bytes_eq-Decides x.code (codes "ENDB")).0 same)) in
    subst (λ (t : List ℕ). step_in h (t ++ rest) at size ≡ Ok (Block (moved x at))) (sym (returns-clause-written c))
    (step_back h x (record { code_len = size_of_code; code = c.requires.code; len = c.requires.len; address = c.requires.address; index = c.requires.index; count = c.requires.count }) differs at size rest inside)
