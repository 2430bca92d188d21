-- Definitions. The opcodes of instruction.rs: "the opcode's number is its place in `Opcode`, from 0".
-- Cited as op.AddI and so on, after `use .. Opcode as op`. Assumes nothing.
use Rattle.std.specs.Prelude.{List, [], ◌∷◌, ℕ}

-- "bytes above `MAX_VALID` are Invalid"
abbrev pub max_valid : ℕ
max_valid = 135

abbrev pub Hint : ℕ
Hint = 0

abbrev pub LoadInt : ℕ
LoadInt = 1

abbrev pub LoadConst : ℕ
LoadConst = 2

abbrev pub Copy : ℕ
Copy = 3

abbrev pub CopyN : ℕ
CopyN = 4

abbrev pub SlotGet : ℕ
SlotGet = 5

abbrev pub SlotSet : ℕ
SlotSet = 6

abbrev pub SlotGetN : ℕ
SlotGetN = 7

abbrev pub SlotSetN : ℕ
SlotSetN = 8

abbrev pub GlobalGet : ℕ
GlobalGet = 9

abbrev pub GlobalGetN : ℕ
GlobalGetN = 10

abbrev pub GlobalSet : ℕ
GlobalSet = 11

abbrev pub GlobalSetN : ℕ
GlobalSetN = 12

abbrev pub PtrNew : ℕ
PtrNew = 13

abbrev pub PtrGet : ℕ
PtrGet = 14

abbrev pub PtrSet : ℕ
PtrSet = 15

abbrev pub PtrGetN : ℕ
PtrGetN = 16

abbrev pub PtrSetN : ℕ
PtrSetN = 17

abbrev pub PtrAdd : ℕ
PtrAdd = 18

abbrev pub AddI : ℕ
AddI = 19

abbrev pub SubI : ℕ
SubI = 20

abbrev pub MulI : ℕ
MulI = 21

abbrev pub DivI : ℕ
DivI = 22

abbrev pub DivU : ℕ
DivU = 23

abbrev pub ModI : ℕ
ModI = 24

abbrev pub ModU : ℕ
ModU = 25

abbrev pub NegI : ℕ
NegI = 26

abbrev pub AddF : ℕ
AddF = 27

abbrev pub SubF : ℕ
SubF = 28

abbrev pub MulF : ℕ
MulF = 29

abbrev pub DivF : ℕ
DivF = 30

abbrev pub NegF : ℕ
NegF = 31

abbrev pub EqI : ℕ
EqI = 32

abbrev pub NeI : ℕ
NeI = 33

abbrev pub LtI : ℕ
LtI = 34

abbrev pub LtU : ℕ
LtU = 35

abbrev pub LeI : ℕ
LeI = 36

abbrev pub LeU : ℕ
LeU = 37

abbrev pub GtI : ℕ
GtI = 38

abbrev pub GtU : ℕ
GtU = 39

abbrev pub GeI : ℕ
GeI = 40

abbrev pub GeU : ℕ
GeU = 41

abbrev pub EqF : ℕ
EqF = 42

abbrev pub NeF : ℕ
NeF = 43

abbrev pub LtF : ℕ
LtF = 44

abbrev pub LeF : ℕ
LeF = 45

abbrev pub GtF : ℕ
GtF = 46

abbrev pub GeF : ℕ
GeF = 47

abbrev pub And : ℕ
And = 48

abbrev pub Or : ℕ
Or = 49

abbrev pub Xor : ℕ
Xor = 50

abbrev pub AndNot : ℕ
AndNot = 51

abbrev pub Not : ℕ
Not = 52

abbrev pub Shl : ℕ
Shl = 53

abbrev pub ShrS : ℕ
ShrS = 54

abbrev pub ShrU : ℕ
ShrU = 55

abbrev pub BoolNot : ℕ
BoolNot = 56

abbrev pub Jump : ℕ
Jump = 57

abbrev pub JumpIf : ℕ
JumpIf = 58

abbrev pub JumpIfNot : ℕ
JumpIfNot = 59

abbrev pub Call : ℕ
Call = 60

abbrev pub CallExtern : ℕ
CallExtern = 61

abbrev pub CallClosure : ℕ
CallClosure = 62

abbrev pub CallIface : ℕ
CallIface = 63

abbrev pub Return : ℕ
Return = 64

abbrev pub StrNew : ℕ
StrNew = 65

abbrev pub StrLen : ℕ
StrLen = 66

abbrev pub StrIndex : ℕ
StrIndex = 67

abbrev pub StrConcat : ℕ
StrConcat = 68

abbrev pub StrSlice : ℕ
StrSlice = 69

abbrev pub StrEq : ℕ
StrEq = 70

abbrev pub StrNe : ℕ
StrNe = 71

abbrev pub StrLt : ℕ
StrLt = 72

abbrev pub StrLe : ℕ
StrLe = 73

abbrev pub StrGt : ℕ
StrGt = 74

abbrev pub StrGe : ℕ
StrGe = 75

abbrev pub StrDecodeRune : ℕ
StrDecodeRune = 76

abbrev pub ArrayNew : ℕ
ArrayNew = 77

abbrev pub ArrayGet : ℕ
ArrayGet = 78

abbrev pub ArraySet : ℕ
ArraySet = 79

abbrev pub ArrayAddr : ℕ
ArrayAddr = 80

abbrev pub SliceNew : ℕ
SliceNew = 81

abbrev pub SliceGet : ℕ
SliceGet = 82

abbrev pub SliceSet : ℕ
SliceSet = 83

abbrev pub SliceLen : ℕ
SliceLen = 84

abbrev pub SliceCap : ℕ
SliceCap = 85

abbrev pub SliceSlice : ℕ
SliceSlice = 86

abbrev pub SliceAppend : ℕ
SliceAppend = 87

abbrev pub SliceAddr : ℕ
SliceAddr = 88

abbrev pub MapNew : ℕ
MapNew = 89

abbrev pub MapGet : ℕ
MapGet = 90

abbrev pub MapSet : ℕ
MapSet = 91

abbrev pub MapDelete : ℕ
MapDelete = 92

abbrev pub MapLen : ℕ
MapLen = 93

abbrev pub MapIterInit : ℕ
MapIterInit = 94

abbrev pub MapIterNext : ℕ
MapIterNext = 95

abbrev pub QueueNew : ℕ
QueueNew = 96

abbrev pub QueueSend : ℕ
QueueSend = 97

abbrev pub QueueRecv : ℕ
QueueRecv = 98

abbrev pub QueueClose : ℕ
QueueClose = 99

abbrev pub QueueLen : ℕ
QueueLen = 100

abbrev pub QueueCap : ℕ
QueueCap = 101

abbrev pub SelectBegin : ℕ
SelectBegin = 102

abbrev pub SelectSend : ℕ
SelectSend = 103

abbrev pub SelectRecv : ℕ
SelectRecv = 104

abbrev pub SelectExec : ℕ
SelectExec = 105

abbrev pub ClosureNew : ℕ
ClosureNew = 106

abbrev pub ClosureGet : ℕ
ClosureGet = 107

abbrev pub GoStart : ℕ
GoStart = 108

abbrev pub DeferPush : ℕ
DeferPush = 109

abbrev pub ErrDeferPush : ℕ
ErrDeferPush = 110

abbrev pub Panic : ℕ
Panic = 111

abbrev pub Recover : ℕ
Recover = 112

abbrev pub IfaceAssign : ℕ
IfaceAssign = 113

abbrev pub IfaceAssert : ℕ
IfaceAssert = 114

abbrev pub IfaceEq : ℕ
IfaceEq = 115

abbrev pub ConvI2F : ℕ
ConvI2F = 116

abbrev pub ConvF2I : ℕ
ConvF2I = 117

abbrev pub ConvF64F32 : ℕ
ConvF64F32 = 118

abbrev pub ConvF32F64 : ℕ
ConvF32F64 = 119

abbrev pub Trunc : ℕ
Trunc = 120

abbrev pub IndexCheck : ℕ
IndexCheck = 121

abbrev pub IslandNew : ℕ
IslandNew = 122

abbrev pub GoIsland : ℕ
GoIsland = 123

abbrev pub ForLoop : ℕ
ForLoop = 124

abbrev pub AddF32 : ℕ
AddF32 = 125

abbrev pub SubF32 : ℕ
SubF32 = 126

abbrev pub MulF32 : ℕ
MulF32 = 127

abbrev pub DivF32 : ℕ
DivF32 = 128

abbrev pub NegF32 : ℕ
NegF32 = 129

abbrev pub EqF32 : ℕ
EqF32 = 130

abbrev pub NeF32 : ℕ
NeF32 = 131

abbrev pub LtF32 : ℕ
LtF32 = 132

abbrev pub LeF32 : ℕ
LeF32 = 133

abbrev pub GtF32 : ℕ
GtF32 = 134

abbrev pub GeF32 : ℕ
GeF32 = 135

-- the ten opcodes of `unary` and the 37 of `binary` in optimize.rs
abbrev pub unary : List ℕ
unary =
    NegI ∷ Not ∷ BoolNot ∷ Trunc ∷ NegF ∷ NegF32 ∷ ConvI2F ∷ ConvF2I ∷ ConvF64F32 ∷ ConvF32F64 ∷ []

abbrev pub binary : List ℕ
binary =
    AddI ∷ SubI ∷ MulI ∷ And ∷ Or ∷ Xor ∷ AndNot ∷ EqI ∷ NeI ∷ LtI ∷ LtU ∷ LeI ∷ LeU ∷
    GtI ∷ GtU ∷ GeI ∷ GeU ∷ AddF ∷ AddF32 ∷ SubF ∷ SubF32 ∷ MulF ∷ MulF32 ∷ DivF ∷ DivF32 ∷
    EqF ∷ EqF32 ∷ NeF ∷ NeF32 ∷ LtF ∷ LtF32 ∷ LeF ∷ LeF32 ∷ GtF ∷ GtF32 ∷ GeF ∷ GeF32 ∷ []
