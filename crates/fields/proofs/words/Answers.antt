use Rattle.fields.proofs.Chunks.{word_count, word_at}
use Rattle.fields.proofs.words.Goals as goal

pub returns-clause-each : goal.returns-clause-each
returns-clause-each g c = λ i l.
    let a = c.args in
    let count = word_count a.s.now g.row.N a.at a.k c.requires.some c.requires.within in
    rw (c.as_chunks.ensures.front, count) (word_at a.s.now g.row.N a.at a.k i l)
