-- Tokens without where they lie in memory.
use Rattle.wu_gcl.specs.declared.lexing.Atom.{Atom as WrittenAtom}
use Rattle.wu_gcl.specs.declared.lexing.Atom.TheVariants as atoms
use Rattle.wu_gcl.specs.declared.lexing.Token.{Token as WrittenToken}
use Rattle.wu_gcl.specs.declared.lexing.Token.TheVariants as written
use Rattle.wu_gcl.specs.Lexical.{Atom, Quoted, Bracketed, FileWord, LineWord, Token, Operand, Operator, Open, Close}

abbrev pub atom_of : WrittenAtom → Atom
atom_of (atoms.Quoted bytes) = Quoted bytes.now
atom_of (atoms.Bracketed digits) = Bracketed digits.now
atom_of atoms.File = FileWord
atom_of atoms.Line = LineWord

abbrev pub token_of : WrittenToken → Token
token_of (written.Operand atom) = Operand (atom_of atom)
token_of (written.Operator op) = Operator op
token_of written.Open = Open
token_of written.Close = Close
