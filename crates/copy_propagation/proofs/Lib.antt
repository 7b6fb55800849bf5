mod NoteFacts
mod Steps
