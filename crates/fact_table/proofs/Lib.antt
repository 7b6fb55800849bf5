mod NoteFacts
