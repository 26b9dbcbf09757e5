-- A line as the program keeps it: the section in which it stands, and its words.
use Rattle.irp_grammar.specs.Lines.{texts}
use Rattle.irp_grammar.specs.Reading as reading
use Rattle.irp_grammar.specs.declared.read.Line.{Line}

abbrev pub shown : Line → reading.Line
shown line = (line.section, texts line.words.items)
