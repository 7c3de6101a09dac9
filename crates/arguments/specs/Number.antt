-- What a word says that a program is started with: a token of a text, or no number. Assumes nothing.
use Rattle.std.specs.Prelude.{Bool, true, false, leb, ℤ, Option, None, Some}
use Rattle.reader.specs.declared.token.Entry.{Entry}
use Rattle.reader.specs.Words.{max_number, value_of}

abbrev pub argument_if : Bool → Entry → Option ℤ
argument_if true e = Some (value_of e)
argument_if false e = None

abbrev pub argument_of : Option Entry → Option ℤ
argument_of None = None
argument_of (Some e) = argument_if (leb e.number max_number) e
