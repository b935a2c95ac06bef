mod Redone
