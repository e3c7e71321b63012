-- What a well-formed sheet of bytes holds, as the definition parses it.
use Rattle.model.specs.Sheet.{sheet_of}
use Rattle.model.specs.Sheet as definition
use Rattle.sheet.specs.declared.Sheet.{Sheet}

abbrev pub contents : Sheet → definition.Sheet
contents x = sheet_of x.bytes.now x.counts
