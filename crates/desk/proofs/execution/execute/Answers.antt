use Rattle.std.proofs.Common.{refl, ◌∙◌, arith, ne_eqb}
use Rattle.instruction.specs.Class.{class_of, single}
use Rattle.instruction.specs.Opcode as op
use Rattle.instruction.specs.declared.Class.TheVariants.{LoadInt, LoadConst, Copy, CopyN, Unary, Binary, JumpIf, JumpIfNot}
use Rattle.values.specs.laws.Named.{Named}
use Rattle.desk.proofs.laws.Execution.{executable_same, named_as, class_as, going, does_hint, does_load_int, does_load, does_copy, does_copy_n, does_jump, does_jump_if, does_jump_if_not, does_unary, does_binary, does_nothing}
use Rattle.desk.proofs.execution.execute.Goals as goal

pub store-requires : goal.store-requires
unfolding Named class_of single
store-requires c =
    let x = executable_same c.read-i.result _ c.read-i.ensures c.requires.executable in
    record { place = x.place; slot = named_as LoadInt op.LoadInt _ _ c.in-1.is refl x.named }

pub load-requires : goal.load-requires
unfolding Named class_of single
load-requires c =
    let x = executable_same c.read-i.result _ c.read-i.ensures c.requires.executable in
    record { place = x.place; slot = named_as LoadConst op.LoadConst _ _ c.in-2.is refl x.named }

pub bounds-frame-i : goal.bounds-frame-i
unfolding Named class_of single
bounds-frame-i c =
    let x = executable_same c.read-i.result _ c.read-i.ensures c.requires.executable in (named_as Copy op.Copy _ _ c.in-3.is refl x.named).0

pub store-requires-in-3 : goal.store-requires-in-3
unfolding Named class_of single
store-requires-in-3 c =
    let x = executable_same c.read-i.result _ c.read-i.ensures c.requires.executable in
    record { place = x.place; slot = (named_as Copy op.Copy _ _ c.in-3.is refl x.named).1 }

pub copy_words-requires : goal.copy_words-requires
unfolding Named class_of single
copy_words-requires c =
    let x = executable_same c.read-i.result _ c.read-i.ensures c.requires.executable in
    let k = class_as CopyN op.CopyN c.read-i.result c.in-4.is refl in
    record { read = λ z. x.read k z; written = λ z. x.written k z }

pub bounds-frame-i-in-58 : goal.bounds-frame-i-in-58
unfolding Named class_of single
bounds-frame-i-in-58 c =
    let x = executable_same c.read-i.result _ c.read-i.ensures c.requires.executable in named_as JumpIf op.JumpIf _ _ c.in-58.is refl x.named

pub bounds-frame-i-in-59 : goal.bounds-frame-i-in-59
unfolding Named class_of single
bounds-frame-i-in-59 c =
    let x = executable_same c.read-i.result _ c.read-i.ensures c.requires.executable in named_as JumpIfNot op.JumpIfNot _ _ c.in-59.is refl x.named

pub operate_unary-requires : goal.operate_unary-requires
unfolding Named class_of single
operate_unary-requires c =
    let x = executable_same c.read-i.result _ c.read-i.ensures c.requires.executable in
    let n = named_as Unary op.NegI _ _ c.in-26.is refl x.named in
    record { place = x.place; left = n.0; slot = n.1 }

pub operate_unary-requires-in-52 : goal.operate_unary-requires-in-52
unfolding Named class_of single
operate_unary-requires-in-52 c =
    let x = executable_same c.read-i.result _ c.read-i.ensures c.requires.executable in
    let n = named_as Unary op.Not _ _ c.in-52.is refl x.named in
    record { place = x.place; left = n.0; slot = n.1 }

pub operate_unary-requires-in-56 : goal.operate_unary-requires-in-56
unfolding Named class_of single
operate_unary-requires-in-56 c =
    let x = executable_same c.read-i.result _ c.read-i.ensures c.requires.executable in
    let n = named_as Unary op.BoolNot _ _ c.in-56.is refl x.named in
    record { place = x.place; left = n.0; slot = n.1 }

pub operate_unary-requires-in-120 : goal.operate_unary-requires-in-120
unfolding Named class_of single
operate_unary-requires-in-120 c =
    let x = executable_same c.read-i.result _ c.read-i.ensures c.requires.executable in
    let n = named_as Unary op.Trunc _ _ c.in-120.is refl x.named in
    record { place = x.place; left = n.0; slot = n.1 }

pub operate_binary-requires : goal.operate_binary-requires
unfolding Named class_of single
operate_binary-requires c =
    let x = executable_same c.read-i.result _ c.read-i.ensures c.requires.executable in
    let n = named_as Binary op.AddI _ _ c.in-19.is refl x.named in
    record { place = x.place; left = n.0; right = n.1; slot = n.2 }

pub operate_binary-requires-in-20 : goal.operate_binary-requires-in-20
unfolding Named class_of single
operate_binary-requires-in-20 c =
    let x = executable_same c.read-i.result _ c.read-i.ensures c.requires.executable in
    let n = named_as Binary op.SubI _ _ c.in-20.is refl x.named in
    record { place = x.place; left = n.0; right = n.1; slot = n.2 }

pub operate_binary-requires-in-21 : goal.operate_binary-requires-in-21
unfolding Named class_of single
operate_binary-requires-in-21 c =
    let x = executable_same c.read-i.result _ c.read-i.ensures c.requires.executable in
    let n = named_as Binary op.MulI _ _ c.in-21.is refl x.named in
    record { place = x.place; left = n.0; right = n.1; slot = n.2 }

pub operate_binary-requires-in-32 : goal.operate_binary-requires-in-32
unfolding Named class_of single
operate_binary-requires-in-32 c =
    let x = executable_same c.read-i.result _ c.read-i.ensures c.requires.executable in
    let n = named_as Binary op.EqI _ _ c.in-32.is refl x.named in
    record { place = x.place; left = n.0; right = n.1; slot = n.2 }

pub operate_binary-requires-in-33 : goal.operate_binary-requires-in-33
unfolding Named class_of single
operate_binary-requires-in-33 c =
    let x = executable_same c.read-i.result _ c.read-i.ensures c.requires.executable in
    let n = named_as Binary op.NeI _ _ c.in-33.is refl x.named in
    record { place = x.place; left = n.0; right = n.1; slot = n.2 }

pub operate_binary-requires-in-34 : goal.operate_binary-requires-in-34
unfolding Named class_of single
operate_binary-requires-in-34 c =
    let x = executable_same c.read-i.result _ c.read-i.ensures c.requires.executable in
    let n = named_as Binary op.LtI _ _ c.in-34.is refl x.named in
    record { place = x.place; left = n.0; right = n.1; slot = n.2 }

pub operate_binary-requires-in-35 : goal.operate_binary-requires-in-35
unfolding Named class_of single
operate_binary-requires-in-35 c =
    let x = executable_same c.read-i.result _ c.read-i.ensures c.requires.executable in
    let n = named_as Binary op.LtU _ _ c.in-35.is refl x.named in
    record { place = x.place; left = n.0; right = n.1; slot = n.2 }

pub operate_binary-requires-in-36 : goal.operate_binary-requires-in-36
unfolding Named class_of single
operate_binary-requires-in-36 c =
    let x = executable_same c.read-i.result _ c.read-i.ensures c.requires.executable in
    let n = named_as Binary op.LeI _ _ c.in-36.is refl x.named in
    record { place = x.place; left = n.0; right = n.1; slot = n.2 }

pub operate_binary-requires-in-37 : goal.operate_binary-requires-in-37
unfolding Named class_of single
operate_binary-requires-in-37 c =
    let x = executable_same c.read-i.result _ c.read-i.ensures c.requires.executable in
    let n = named_as Binary op.LeU _ _ c.in-37.is refl x.named in
    record { place = x.place; left = n.0; right = n.1; slot = n.2 }

pub operate_binary-requires-in-38 : goal.operate_binary-requires-in-38
unfolding Named class_of single
operate_binary-requires-in-38 c =
    let x = executable_same c.read-i.result _ c.read-i.ensures c.requires.executable in
    let n = named_as Binary op.GtI _ _ c.in-38.is refl x.named in
    record { place = x.place; left = n.0; right = n.1; slot = n.2 }

pub operate_binary-requires-in-39 : goal.operate_binary-requires-in-39
unfolding Named class_of single
operate_binary-requires-in-39 c =
    let x = executable_same c.read-i.result _ c.read-i.ensures c.requires.executable in
    let n = named_as Binary op.GtU _ _ c.in-39.is refl x.named in
    record { place = x.place; left = n.0; right = n.1; slot = n.2 }

pub operate_binary-requires-in-40 : goal.operate_binary-requires-in-40
unfolding Named class_of single
operate_binary-requires-in-40 c =
    let x = executable_same c.read-i.result _ c.read-i.ensures c.requires.executable in
    let n = named_as Binary op.GeI _ _ c.in-40.is refl x.named in
    record { place = x.place; left = n.0; right = n.1; slot = n.2 }

pub operate_binary-requires-in-41 : goal.operate_binary-requires-in-41
unfolding Named class_of single
operate_binary-requires-in-41 c =
    let x = executable_same c.read-i.result _ c.read-i.ensures c.requires.executable in
    let n = named_as Binary op.GeU _ _ c.in-41.is refl x.named in
    record { place = x.place; left = n.0; right = n.1; slot = n.2 }

pub operate_binary-requires-in-48 : goal.operate_binary-requires-in-48
unfolding Named class_of single
operate_binary-requires-in-48 c =
    let x = executable_same c.read-i.result _ c.read-i.ensures c.requires.executable in
    let n = named_as Binary op.And _ _ c.in-48.is refl x.named in
    record { place = x.place; left = n.0; right = n.1; slot = n.2 }

pub operate_binary-requires-in-49 : goal.operate_binary-requires-in-49
unfolding Named class_of single
operate_binary-requires-in-49 c =
    let x = executable_same c.read-i.result _ c.read-i.ensures c.requires.executable in
    let n = named_as Binary op.Or _ _ c.in-49.is refl x.named in
    record { place = x.place; left = n.0; right = n.1; slot = n.2 }

pub operate_binary-requires-in-50 : goal.operate_binary-requires-in-50
unfolding Named class_of single
operate_binary-requires-in-50 c =
    let x = executable_same c.read-i.result _ c.read-i.ensures c.requires.executable in
    let n = named_as Binary op.Xor _ _ c.in-50.is refl x.named in
    record { place = x.place; left = n.0; right = n.1; slot = n.2 }

pub operate_binary-requires-in-51 : goal.operate_binary-requires-in-51
unfolding Named class_of single
operate_binary-requires-in-51 c =
    let x = executable_same c.read-i.result _ c.read-i.ensures c.requires.executable in
    let n = named_as Binary op.AndNot _ _ c.in-51.is refl x.named in
    record { place = x.place; left = n.0; right = n.1; slot = n.2 }

pub returns-in-0 : goal.returns-in-0
returns-in-0 c = let all = does_hint _ _ _ c.read-i.ensures _ c.in-0.is (omega arith) in record { place = all.0; frame = all.1 }

pub returns-in-1 : goal.returns-in-1
returns-in-1 c =
    let d = c.store.ensures in
    let all = does_load_int _ _ _ c.read-i.ensures _ _ c.in-1.is (d.place, d.frame ∙ rw c.imm32.ensures) in
    record { place = all.0; frame = all.1 }

pub returns-in-2 : goal.returns-in-2
returns-in-2 c =
    let all = does_load _ _ _ c.read-i.ensures _ _ c.in-2.is (c.load.ensures.place, c.load.ensures.frame) in
    record { place = all.0; frame = all.1 }

pub returns-in-3 : goal.returns-in-3
returns-in-3 c =
    let all = does_copy _ _ _ c.read-i.ensures _ _ c.in-3.is (c.store-in-3.ensures.place, c.store-in-3.ensures.frame) in
    record { place = all.0; frame = all.1 }

pub returns-in-4 : goal.returns-in-4
returns-in-4 c =
    let all = does_copy_n _ _ _ c.read-i.ensures _ _ c.in-4.is (omega arith) c.copy_words.ensures.frame in
    record { place = all.0; frame = all.1 }

pub returns-in-57 : goal.returns-in-57
returns-in-57 c = let all = does_jump _ _ _ c.read-i.ensures _ c.in-57.is c.jump.ensures.place in record { place = all.0; frame = all.1 }

pub returns-in-58 : goal.returns-in-58
returns-in-58 c = let all = does_jump_if _ _ _ c.read-i.ensures _ c.in-58.is c.jump-in-58.ensures.place in record { place = all.0; frame = all.1 }

pub returns-in-59 : goal.returns-in-59
returns-in-59 c = let all = does_jump_if_not _ _ _ c.read-i.ensures _ c.in-59.is c.jump-in-59.ensures.place in record { place = all.0; frame = all.1 }

pub returns-in-26 : goal.returns-in-26
unfolding class_of single
returns-in-26 c =
    let all = does_unary _ _ _ c.read-i.ensures op.NegI _ _ refl refl c.in-26.is (c.operate_unary.ensures.place, c.operate_unary.ensures.frame) in
    record { place = all.0; frame = all.1 }

pub returns-in-52 : goal.returns-in-52
unfolding class_of single
returns-in-52 c =
    let all = does_unary _ _ _ c.read-i.ensures op.Not _ _ refl refl c.in-52.is (c.operate_unary-in-52.ensures.place, c.operate_unary-in-52.ensures.frame) in
    record { place = all.0; frame = all.1 }

pub returns-in-56 : goal.returns-in-56
unfolding class_of single
returns-in-56 c =
    let all = does_unary _ _ _ c.read-i.ensures op.BoolNot _ _ refl refl c.in-56.is (c.operate_unary-in-56.ensures.place, c.operate_unary-in-56.ensures.frame) in
    record { place = all.0; frame = all.1 }

pub returns-in-120 : goal.returns-in-120
unfolding class_of single
returns-in-120 c =
    let all = does_unary _ _ _ c.read-i.ensures op.Trunc _ _ refl refl c.in-120.is (c.operate_unary-in-120.ensures.place, c.operate_unary-in-120.ensures.frame) in
    record { place = all.0; frame = all.1 }

pub returns-in-19 : goal.returns-in-19
unfolding class_of single
returns-in-19 c =
    let all = does_binary _ _ _ c.read-i.ensures op.AddI _ _ refl refl c.in-19.is (c.operate_binary.ensures.place, c.operate_binary.ensures.frame) in
    record { place = all.0; frame = all.1 }

pub returns-in-20 : goal.returns-in-20
unfolding class_of single
returns-in-20 c =
    let all = does_binary _ _ _ c.read-i.ensures op.SubI _ _ refl refl c.in-20.is (c.operate_binary-in-20.ensures.place, c.operate_binary-in-20.ensures.frame) in
    record { place = all.0; frame = all.1 }

pub returns-in-21 : goal.returns-in-21
unfolding class_of single
returns-in-21 c =
    let all = does_binary _ _ _ c.read-i.ensures op.MulI _ _ refl refl c.in-21.is (c.operate_binary-in-21.ensures.place, c.operate_binary-in-21.ensures.frame) in
    record { place = all.0; frame = all.1 }

pub returns-in-32 : goal.returns-in-32
unfolding class_of single
returns-in-32 c =
    let all = does_binary _ _ _ c.read-i.ensures op.EqI _ _ refl refl c.in-32.is (c.operate_binary-in-32.ensures.place, c.operate_binary-in-32.ensures.frame) in
    record { place = all.0; frame = all.1 }

pub returns-in-33 : goal.returns-in-33
unfolding class_of single
returns-in-33 c =
    let all = does_binary _ _ _ c.read-i.ensures op.NeI _ _ refl refl c.in-33.is (c.operate_binary-in-33.ensures.place, c.operate_binary-in-33.ensures.frame) in
    record { place = all.0; frame = all.1 }

pub returns-in-34 : goal.returns-in-34
unfolding class_of single
returns-in-34 c =
    let all = does_binary _ _ _ c.read-i.ensures op.LtI _ _ refl refl c.in-34.is (c.operate_binary-in-34.ensures.place, c.operate_binary-in-34.ensures.frame) in
    record { place = all.0; frame = all.1 }

pub returns-in-35 : goal.returns-in-35
unfolding class_of single
returns-in-35 c =
    let all = does_binary _ _ _ c.read-i.ensures op.LtU _ _ refl refl c.in-35.is (c.operate_binary-in-35.ensures.place, c.operate_binary-in-35.ensures.frame) in
    record { place = all.0; frame = all.1 }

pub returns-in-36 : goal.returns-in-36
unfolding class_of single
returns-in-36 c =
    let all = does_binary _ _ _ c.read-i.ensures op.LeI _ _ refl refl c.in-36.is (c.operate_binary-in-36.ensures.place, c.operate_binary-in-36.ensures.frame) in
    record { place = all.0; frame = all.1 }

pub returns-in-37 : goal.returns-in-37
unfolding class_of single
returns-in-37 c =
    let all = does_binary _ _ _ c.read-i.ensures op.LeU _ _ refl refl c.in-37.is (c.operate_binary-in-37.ensures.place, c.operate_binary-in-37.ensures.frame) in
    record { place = all.0; frame = all.1 }

pub returns-in-38 : goal.returns-in-38
unfolding class_of single
returns-in-38 c =
    let all = does_binary _ _ _ c.read-i.ensures op.GtI _ _ refl refl c.in-38.is (c.operate_binary-in-38.ensures.place, c.operate_binary-in-38.ensures.frame) in
    record { place = all.0; frame = all.1 }

pub returns-in-39 : goal.returns-in-39
unfolding class_of single
returns-in-39 c =
    let all = does_binary _ _ _ c.read-i.ensures op.GtU _ _ refl refl c.in-39.is (c.operate_binary-in-39.ensures.place, c.operate_binary-in-39.ensures.frame) in
    record { place = all.0; frame = all.1 }

pub returns-in-40 : goal.returns-in-40
unfolding class_of single
returns-in-40 c =
    let all = does_binary _ _ _ c.read-i.ensures op.GeI _ _ refl refl c.in-40.is (c.operate_binary-in-40.ensures.place, c.operate_binary-in-40.ensures.frame) in
    record { place = all.0; frame = all.1 }

pub returns-in-41 : goal.returns-in-41
unfolding class_of single
returns-in-41 c =
    let all = does_binary _ _ _ c.read-i.ensures op.GeU _ _ refl refl c.in-41.is (c.operate_binary-in-41.ensures.place, c.operate_binary-in-41.ensures.frame) in
    record { place = all.0; frame = all.1 }

pub returns-in-48 : goal.returns-in-48
unfolding class_of single
returns-in-48 c =
    let all = does_binary _ _ _ c.read-i.ensures op.And _ _ refl refl c.in-48.is (c.operate_binary-in-48.ensures.place, c.operate_binary-in-48.ensures.frame) in
    record { place = all.0; frame = all.1 }

pub returns-in-49 : goal.returns-in-49
unfolding class_of single
returns-in-49 c =
    let all = does_binary _ _ _ c.read-i.ensures op.Or _ _ refl refl c.in-49.is (c.operate_binary-in-49.ensures.place, c.operate_binary-in-49.ensures.frame) in
    record { place = all.0; frame = all.1 }

pub returns-in-50 : goal.returns-in-50
unfolding class_of single
returns-in-50 c =
    let all = does_binary _ _ _ c.read-i.ensures op.Xor _ _ refl refl c.in-50.is (c.operate_binary-in-50.ensures.place, c.operate_binary-in-50.ensures.frame) in
    record { place = all.0; frame = all.1 }

pub returns-in-51 : goal.returns-in-51
unfolding class_of single
returns-in-51 c =
    let all = does_binary _ _ _ c.read-i.ensures op.AndNot _ _ refl refl c.in-51.is (c.operate_binary-in-51.ensures.place, c.operate_binary-in-51.ensures.frame) in
    record { place = all.0; frame = all.1 }

pub returns-in_default : goal.returns-in_default
unfolding going
returns-in_default c =
    let n29 = c.in_default.in_default-own.rest in
    let n28 = n29.0 in
    let n27 = n28.0 in
    let n26 = n27.0 in
    let n25 = n26.0 in
    let n24 = n25.0 in
    let n23 = n24.0 in
    let n22 = n23.0 in
    let n21 = n22.0 in
    let n20 = n21.0 in
    let n19 = n20.0 in
    let n18 = n19.0 in
    let n17 = n18.0 in
    let n16 = n17.0 in
    let n15 = n16.0 in
    let n14 = n15.0 in
    let n13 = n14.0 in
    let n12 = n13.0 in
    let n11 = n12.0 in
    let n10 = n11.0 in
    let n9 = n10.0 in
    let n8 = n9.0 in
    let n7 = n8.0 in
    let n6 = n7.0 in
    let n5 = n6.0 in
    let n4 = n5.0 in
    let n3 = n4.0 in
    let n2 = n3.0 in
    let n1 = n2.0 in
    let all = does_nothing _ _ _ c.read-i.ensures (rw (ne_eqb _ op.Hint n1.1, ne_eqb _ op.LoadInt n2.1, ne_eqb _ op.LoadConst n3.1, ne_eqb _ op.Copy n4.1, ne_eqb _ op.CopyN n5.1, ne_eqb _ op.Jump n6.1, ne_eqb _ op.JumpIf n7.1, ne_eqb _ op.JumpIfNot n8.1, ne_eqb _ op.NegI n9.1, ne_eqb _ op.Not n10.1, ne_eqb _ op.BoolNot n11.1, ne_eqb _ op.Trunc n12.1, ne_eqb _ op.AddI n13.1, ne_eqb _ op.SubI n14.1, ne_eqb _ op.MulI n15.1, ne_eqb _ op.EqI n16.1, ne_eqb _ op.NeI n17.1, ne_eqb _ op.LtI n18.1, ne_eqb _ op.LtU n19.1, ne_eqb _ op.LeI n20.1, ne_eqb _ op.LeU n21.1, ne_eqb _ op.GtI n22.1, ne_eqb _ op.GtU n23.1, ne_eqb _ op.GeI n24.1, ne_eqb _ op.GeU n25.1, ne_eqb _ op.And n26.1, ne_eqb _ op.Or n27.1, ne_eqb _ op.Xor n28.1, ne_eqb _ op.AndNot n29.1) refl) in
    record { place = all.0; frame = all.1 }
