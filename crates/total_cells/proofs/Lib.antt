mod InsideFacts
mod RightFacts
mod WalkFacts
